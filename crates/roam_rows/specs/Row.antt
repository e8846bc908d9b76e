-- Maps over the columns of one row, and what mends it.
use Rattle.std.specs.Prelude.{ℕ, ◌+◌, ◌-◌, ◌<◌, Bool, false, not, ◌&&◌, ◌==◌, nat_lt, List, length, map, if◌then◌else◌}
use Rattle.std.specs.List.{range_with_len}
use Rattle.roam_cells.specs.Glyph.{Glyph, is_wide, is_right_half, space_in}
use Rattle.roam_cells.specs.Place.{glyph_at}

-- the source of a column of a row: a column of the same row, or a new cell
pub data RowSource : Type 0 where
  Column : ℕ → RowSource
  Fresh : Glyph → RowSource

-- a source is a column of a row of so many columns, or a new cell
abbrev pub IsInRow : ℕ → RowSource → Type 0
IsInRow cols (Column c) = c < cols
IsInRow cols (Fresh x) = Unit {0}

-- the cell of a source of a row
abbrev pub row_taken : List Glyph → RowSource → Glyph
row_taken row (Column c) = glyph_at row c
row_taken row (Fresh x) = x

-- whether two sources are a column and the next, or a new wide cell and a new right half
abbrev pub are_neighbours : RowSource → RowSource → Bool
are_neighbours (Column c) (Column d) = d == c + 1
are_neighbours (Column c) (Fresh y) = false
are_neighbours (Fresh x) (Column d) = false
are_neighbours (Fresh x) (Fresh y) = is_wide x && is_right_half y

-- a half whose other half is not beside it becomes a space in its own style and guard (this project's profile)
abbrev pub mended_glyph : Glyph → Bool → Bool → Glyph
mended_glyph x has_right has_left =
    if (is_wide x && not has_right) then space_in x
    else if (is_right_half x && not has_left) then space_in x
    else x

-- the cell of a column, if each column takes the cell that the map names
abbrev pub row_moved_at : List Glyph → (ℕ → RowSource) → ℕ → Glyph
row_moved_at row one c =
    mended_glyph (row_taken row (one c))
    (nat_lt (c + 1) (length row) && are_neighbours (one c) (one (c + 1)))
    (nat_lt 0 c && are_neighbours (one (c - 1)) (one c))

-- a row after a map of its columns
abbrev pub row_moved : List Glyph → (ℕ → RowSource) → List Glyph
row_moved row one = map (row_moved_at row one) (range_with_len 0 (length row))
