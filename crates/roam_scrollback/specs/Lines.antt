-- Rows that left, and the lines of them that were written.
use Rattle.std.specs.Prelude.{◌≡◌, ℕ, ◌+◌, ◌-◌, ◌^◌, ◌<◌, ◌≤◌, Bool, List, [], ◌∷◌, ◌++◌, drop, length, map, min, take, nat_le, nat_lt, ◌||◌, if◌then◌else◌}
use Rattle.std.specs.List.{flat_map}
use Rattle.roam_cells.specs.Glyph.{Glyph}
use Rattle.roam_rewrap.specs.Lines.{TextRow}
use Rattle.roam_scrollback.specs.RowText.{line_text, text_cells}
use Rattle.roam_scrollback.specs.Wraps.{is_on, wrap_at}
use Rattle.roam_scrollback.specs.declared.wraps.Wrap.{Wrap}
use Rattle.roam_scrollback.specs.declared.wraps.Wrap.TheVariants.{Ends, Full}

-- a row that left, and how it ends
pub record LeftRow : Type 0 where
  pub wrap : Wrap
  pub cells : List Glyph

-- rows of the top of a screen, each with how it ends
abbrev pub rows_with : List (List Glyph) → List Wrap → List LeftRow
rows_with [] wraps = []
rows_with (row ∷ rows) wraps = record { wrap = wrap_at wraps 0; cells = row } ∷ rows_with rows (drop 1 wraps)

-- the line of a row that left
abbrev pub line_of : LeftRow → List ℕ
line_of row = line_text row.wrap row.cells

-- a row that left, as far as it is text
abbrev pub text_row : LeftRow → TextRow
text_row row = record { goes_on = is_on row.wrap; cells = text_cells row.wrap row.cells }

-- a row of text that left
abbrev pub left_of : TextRow → LeftRow
left_of row = record { wrap = if row.goes_on then Full else Ends; cells = row.cells }

-- so many rows are kept at most
abbrev pub most_kept : ℕ
most_kept = 200

-- the last so many rows of some
abbrev pub newest : ℕ → List TextRow → List TextRow
newest n rows = drop (length rows - n) rows

-- rows came: the newest 200 are those of all that were kept and came
abbrev pub Keeps : List TextRow → List LeftRow → List TextRow → Type 0
Keeps old rows new = newest most_kept new ≡ newest most_kept (old ++ map text_row rows)

-- the view of written lines: their bytes, their number, the number of rows for which memory was refused, and the last rows that left, as
-- text
pub record LinesView : Type 0 where
  pub text : List ℕ
  pub count : ℕ
  pub lost : ℕ
  pub kept : List TextRow

-- no more lost rows are counted
abbrev pub most_lost : ℕ
most_lost = 2 ^ 64 - 1

-- no lines yet, behind rows that are kept
abbrev pub lines_behind : List TextRow → LinesView
lines_behind kept = record { text = []; count = 0; lost = 0; kept = kept }

-- no lines yet, and no rows
abbrev pub no_lines : LinesView
no_lines = lines_behind []

-- so many bytes are many
abbrev pub many : ℕ
many = 65536

-- the lines are to be taken before more are written: many bytes are queued, or a row was lost
abbrev pub is_full : LinesView → Bool
is_full v = nat_le many (length v.text) || nat_lt 0 v.lost

-- Rows came. The first of them are written, as many as there was memory for, and none behind one that is lost. If none is lost, the newest
-- are kept; if one of these rows is lost, none is.
pub record Writes (old new : LinesView) (rows : List LeftRow) : Type 0 where
  pub written : ℕ
  pub few : written ≤ length rows
  pub text : new.text ≡ old.text ++ flat_map line_of (take written rows)
  pub count : new.count ≡ old.count + written
  pub lost : new.lost ≡ min most_lost (old.lost + (length rows - written))
  pub none : 0 < old.lost → written ≡ 0
  pub kept : new.lost ≡ 0 → Keeps old.kept rows new.kept
  pub none_kept : written < length rows → new.kept ≡ []
  pub same_kept : rows ≡ [] → new.kept ≡ old.kept
