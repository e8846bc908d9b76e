-- The order of rows in a buffer that begins with another row.
use Rattle.std.specs.Prelude.{◌≡◌, ℕ, ◌-◌, ◌*◌, ◌<◌, nat_lt, List, ◌++◌, take, drop, length, if◌then◌else◌}
use Rattle.roam_cells.specs.Glyph.{Glyph}
use Rattle.roam_cells.specs.Limits.{IsSize}
use Rattle.roam_cells.specs.Place.{AreWhole}

-- a row number brought back below the number of rows: the remainder, of a number below twice the rows
abbrev pub brought_back : ℕ → ℕ → ℕ
brought_back rows x = if nat_lt x rows then x else x - rows

-- the cells of a buffer, from its first row on and round to it
abbrev pub in_order : ℕ → ℕ → List Glyph → List Glyph
in_order cols first buffer = drop (first * cols) buffer ++ take (first * cols) buffer

-- a buffer of whole rows, with the place of the first
pub record IsTurned (rows cols first : ℕ) (buffer : List Glyph) : Type 0 where
  pub limits : IsSize rows cols
  pub size : length buffer ≡ rows * cols
  pub first_in : first < rows
  pub whole : AreWhole rows cols (in_order cols first buffer)
