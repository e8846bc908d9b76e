-- Lists of cells that are whole rows of whole characters.
use Rattle.std.specs.Prelude.{◌≡◌, ℕ, ◌*◌, ◌<◌, List, length}
use Rattle.roam_cells.specs.Glyph.{Glyph}
use Rattle.roam_cells.specs.Place.{AreWhole}

-- the cells are so many whole rows of a number of columns above 0, and their wide cells and right halves belong together
pub record IsWellFormed (cols : ℕ) (cells : List Glyph) : Type 0 where
  pub some : 0 < cols
  pub rows : ℕ
  pub count : length cells ≡ rows * cols
  pub whole : AreWhole rows cols cells
