-- Maps over places: the source of each place of the rows.
use Rattle.std.specs.Prelude.{ℕ, ◌+◌, ◌-◌, Bool, false, ◌&&◌, ◌==◌, nat_lt, List, if◌then◌else◌}
use Rattle.roam_cells.specs.Glyph.{Glyph, is_wide, is_right_half}
use Rattle.roam_cells.specs.Place.{cell_at, table}
use Rattle.roam_rows.specs.Row.{RowSource, mended_glyph}

-- the source of a place of many rows: a cell of a row and a column, or a new cell
pub data Source : Type 0 where
  From : ℕ → ℕ → Source
  Fresh : Glyph → Source

-- the cell of a source
abbrev pub glyph_of_source : ℕ → List Glyph → Source → Glyph
glyph_of_source cols cells (From r c) = cell_at cols cells r c
glyph_of_source cols cells (Fresh x) = x

-- whether two sources are a place and the next of its row, or a new wide cell and a new right half
abbrev pub are_joined : Source → Source → Bool
are_joined (From r c) (From s d) = (s == r) && (d == c + 1)
are_joined (From r c) (Fresh y) = false
are_joined (Fresh x) (From s d) = false
are_joined (Fresh x) (Fresh y) = is_wide x && is_right_half y

-- the cell at a place of rows of a number of columns, if each place takes the cell that the map names in rows of another number, repaired
abbrev pub recast_at : ℕ → ℕ → List Glyph → (ℕ → ℕ → Source) → ℕ → ℕ → Glyph
recast_at new_cols cols cells source r c =
    mended_glyph (glyph_of_source cols cells (source r c))
    (nat_lt (c + 1) new_cols && are_joined (source r c) (source r (c + 1)))
    (nat_lt 0 c && are_joined (source r (c - 1)) (source r c))

-- the cell at a place, if each place takes the cell that the map names, repaired
abbrev pub moved_at : ℕ → List Glyph → (ℕ → ℕ → Source) → ℕ → ℕ → Glyph
moved_at cols = recast_at cols cols

-- the cells after a map of places
abbrev pub mapped_cells : ℕ → ℕ → List Glyph → (ℕ → ℕ → Source) → List Glyph
mapped_cells rows cols cells source = table rows cols (moved_at cols cells source)

-- a source of one row, as one of a row among many
abbrev pub at_row : ℕ → RowSource → Source
at_row row (RowSource.Column c) = From row c
at_row row (RowSource.Fresh x) = Fresh x

-- a map of one row's columns, as one of all places: every place of another row takes itself
abbrev pub in_row : ℕ → (ℕ → RowSource) → ℕ → ℕ → Source
in_row row one r c = if (r == row) then at_row row (one c) else From r c
