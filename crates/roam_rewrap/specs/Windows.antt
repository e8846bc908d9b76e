-- The rows of text at a width that a screen shows, and the place of its cursor.
use Rattle.std.specs.Prelude.{◌≡◌, ◌⊎◌, ◌≤◌, ◌^◌, ℕ, zero, suc, ◌+◌, ◌-◌, ◌*◌, ◌&&◌, not, ◌==◌, nat_le, nat_lt, min, Bool, List, [], ◌∷◌, ◌++◌, length, take, drop, replicate, if◌then◌else◌}
use Rattle.std.specs.List.{flat_map}
use Rattle.roam_cells.specs.Glyph.{Glyph, blank, is_right_half}
use Rattle.roam_cells.specs.Place.{cell_at}
use Rattle.roam_screens.specs.Screenshot.{Screenshot}
use Rattle.roam_rewrap.specs.Lines.{TextRow}
use Rattle.roam_rewrap.specs.Wrapping.{rewrapped}
use Rattle.roam_rewrap.specs.declared.places.ScreenPosition.{ScreenPosition}
use Rattle.roam_rewrap.specs.declared.places.TextPosition.{TextPosition}

-- ---- a place in the text: a line, and how many of its cells come before; or a row and a column, all from 0

-- the position of the first column of the row behind one
abbrev pub position_after : TextPosition → TextRow → TextPosition
position_after s row =
    if row.goes_on then record { line = s.line; cell = s.cell + length row.cells } else record { line = s.line + 1; cell = 0 }

-- the position of the first column of a row, after rows that led to another
abbrev pub position_from : TextPosition → ℕ → List TextRow → TextPosition
position_from s zero rows = s
position_from s (suc r) [] = s
position_from s (suc r) (row ∷ rows) = position_from (position_after s row) r rows

abbrev pub start_position : TextPosition
start_position = record { line = 0; cell = 0 }

-- the position of a row and a column
unfoldable pub position_at : List TextRow → ScreenPosition → TextPosition
position_at rows p =
    record {
      line = (position_from start_position p.row rows).line;
      cell = (position_from start_position p.row rows).cell + p.col;
    }

-- a position that 64 bits do not hold
abbrev pub IsOver : TextPosition → Type 0
IsOver s = (2 ^ 64 ≤ s.line) ⊎ (2 ^ 64 ≤ s.cell)

-- the way from a position over so many rows leads to such a one
abbrev pub LeavesRange : TextPosition → ℕ → List TextRow → Type 0
LeavesRange s zero rows = ⊥
LeavesRange s (suc r) [] = ⊥
LeavesRange s (suc r) (row ∷ rows) = IsOver (position_after s row) ⊎ LeavesRange (position_after s row) r rows

-- the way to a row and a column does, or the column is too far
abbrev pub LeavesRangeAt : List TextRow → ScreenPosition → Type 0
LeavesRangeAt rows p = LeavesRange start_position p.row rows ⊎ (2 ^ 64 ≤ (position_from start_position p.row rows).cell + p.col)

abbrev pub below : ScreenPosition → ScreenPosition
below p = record { row = p.row + 1; col = p.col }

-- whether a position is behind all cells of a row of its line that goes on
abbrev pub is_behind : TextPosition → TextRow → Bool
is_behind s row = row.goes_on && nat_le (length row.cells) s.cell

-- whether a position is in a row
abbrev pub is_here : TextPosition → TextRow → Bool
is_here s row = (s.line == 0) && not (is_behind s row)

-- the rest of a position behind a row
abbrev pub position_behind : TextPosition → TextRow → TextPosition
position_behind s row =
    if s.line == 0 then record { line = 0; cell = s.cell - length row.cells }
    else if row.goes_on then s
    else record { line = s.line - 1; cell = s.cell }

-- the place of a position in rows
abbrev pub place_of : TextPosition → List TextRow → ScreenPosition
place_of s [] = record { row = 0; col = s.cell }
place_of s (row ∷ rows) =
    if is_here s row then record { row = 0; col = s.cell }
    else below (place_of (position_behind s row) rows)

-- ---- the shown rows

-- how many rows leave at the top, so that the last ones are shown and the cursor's among them
abbrev pub leaving_rows : ℕ → ℕ → List TextRow → ℕ
leaving_rows rows row all_of = min row (length all_of - rows)

-- the cells of a row, and blanks to its end
abbrev pub padded : ℕ → TextRow → List Glyph
padded cols row = row.cells ++ replicate (cols - length row.cells) blank

-- the rows that are shown
abbrev pub shown_rows : ℕ → ℕ → List TextRow → List TextRow
shown_rows rows off all_of = take rows (drop off all_of)

-- their cells, and blank rows below them
abbrev pub shown_cells : ℕ → ℕ → List TextRow → List Glyph
shown_cells rows cols shown =
    flat_map (padded cols) shown ++ replicate (rows * cols - length (flat_map (padded cols) shown)) blank

-- the column of the cursor: behind all columns it is the beginning of the last cell
abbrev pub column_at : ℕ → List Glyph → ℕ → ℕ → ℕ
column_at cols cells row col =
    if nat_lt col cols then col
    else if is_right_half (cell_at cols cells row (cols - 1)) then cols - 2
    else cols - 1

-- ---- the whole

-- text at the size of a screen: all its rows, the number of rows that leave at the top, the screen of the rows behind those, and true if a
-- wrap is pending
pub record ReflowView : Type 0 where
  pub rows : List TextRow
  pub off : ℕ
  pub shot : Screenshot
  pub pending : Bool

-- rows at the width of a screen, with the cursor at a place of them
abbrev pub reflow_at : List TextRow → ScreenPosition → ℕ → ℕ → Bool → ReflowView
reflow_at all_of place rows cols visible =
    record {
      rows = all_of;
      off = leaving_rows rows place.row all_of;
      shot =
          record {
            rows = rows;
            cols = cols;
            cells = shown_cells rows cols (shown_rows rows (leaving_rows rows place.row all_of) all_of);
            cursor_row = place.row - leaving_rows rows place.row all_of + 1;
            cursor_col =
                column_at cols (shown_cells rows cols (shown_rows rows (leaving_rows rows place.row all_of) all_of))
                (place.row - leaving_rows rows place.row all_of) place.col + 1;
            visible = visible;
          };
      pending = nat_le cols place.col;
    }

-- text with a cursor at a row and a column of it, at a size
abbrev pub reflowed : List TextRow → ScreenPosition → ℕ → ℕ → Bool → ReflowView
reflowed text cursor rows cols visible =
    reflow_at (rewrapped cols text) (place_of (position_at text cursor) (rewrapped cols text)) rows cols visible

-- ---- laws

-- the cursor stays at its cell: its place at another width is that of the same cell of the same line
abbrev pub CursorStays : Type 0
CursorStays =
    (cols : ℕ) (text : List TextRow) (cursor : ScreenPosition)
    → position_at (rewrapped cols text) (place_of (position_at text cursor) (rewrapped cols text)) ≡ position_at text cursor
