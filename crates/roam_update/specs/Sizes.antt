-- The cells of a screen brought to a size.
use Rattle.std.specs.Prelude.{◌≡◌, ℕ, ◌+◌, ◌==◌, ◌&&◌, nat_lt, List, if◌then◌else◌}
use Rattle.roam_cells.specs.Glyph.{Glyph, is_wide, space_in, blank}
use Rattle.roam_cells.specs.Place.{cell_at, table}
use Rattle.roam_screens.specs.Screenshot.{Screenshot}

-- the cell at a row and a column, from 0: the old cell there, a wide one in the last column as a space in its style; a blank if there was
-- none
abbrev pub sized_at : ℕ → Screenshot → ℕ → ℕ → Glyph
sized_at cols s r c =
    if nat_lt r s.rows && nat_lt c s.cols then
    (if (c + 1 == cols) && is_wide (cell_at s.cols s.cells r c) then space_in (cell_at s.cols s.cells r c)
    else cell_at s.cols s.cells r c)
    else blank

-- the cells of a screen brought to a number of rows and of columns: places keep their row and column (this project's profile)
abbrev pub sized_cells : ℕ → ℕ → Screenshot → List Glyph
sized_cells rows cols s = table rows cols (sized_at cols s)

-- two screens of one size
pub record AreSameSize (a b : Screenshot) : Type 0 where
  pub rows : a.rows ≡ b.rows
  pub cols : a.cols ≡ b.cols
