-- Cells kept row by row.
use Rattle.std.specs.Prelude.{◌≡◌, ℕ, ◌+◌, ◌*◌, Bool, List, [], ◌∷◌, ◌++◌, length, take, drop, slice_index_or, EachIndex}
use Rattle.roam_cells.specs.Glyph.{Glyph}
use Rattle.roam_screens.specs.Screenshot.{Screenshot}

-- the cells of rows, in reading order
abbrev pub cells_in_order : List (List Glyph) → List Glyph
cells_in_order [] = []
cells_in_order (line ∷ lines) = line ++ cells_in_order lines

-- so many rows of so many cells each
pub record AreLines (rows cols : ℕ) (lines : List (List Glyph)) : Type 0 where
  pub count : length lines ≡ rows
  pub long : EachIndex lines (λ r. length (slice_index_or lines r []) ≡ cols)

-- a screen with other cells in one row, from 0
abbrev pub with_row : ℕ → List Glyph → Screenshot → Screenshot
with_row r line s = record s { cells = take (r * s.cols) s.cells ++ (line ++ drop ((r + 1) * s.cols) s.cells) }

-- a screen with its cursor elsewhere, at a row and a column from 1, visible or not
abbrev pub with_cursor : ℕ → ℕ → Bool → Screenshot → Screenshot
with_cursor row col visible s = record s { cursor_row = row; cursor_col = col; visible = visible }

-- the screen of rows, with its size and its cursor
abbrev pub screen_of : ℕ → ℕ → List (List Glyph) → ℕ → ℕ → Bool → Screenshot
screen_of rows cols lines row col visible =
    record { rows = rows; cols = cols; cells = cells_in_order lines; cursor_row = row; cursor_col = col; visible = visible }
