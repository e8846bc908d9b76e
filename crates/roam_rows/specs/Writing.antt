-- Cells written in a row, and code points that join.
use Rattle.std.specs.Prelude.{ℕ, ◌+◌, ◌-◌, ◌*◌, ◌<◌, ◌≤◌, ◌&&◌, ◌==◌, nat_lt, nat_le, List, length, slice_index, slice_set, if◌then◌else◌}
use Rattle.roam_cells.specs.Glyph.{Glyph, is_wide, is_right_half, right_of, with_point}
use Rattle.roam_cells.specs.Place.{glyph_at, cell_at}
use Rattle.roam_rows.specs.Row.{RowSource, Column, Fresh}
use Rattle.roam_rows.specs.Rows.{Rows}

-- a cell is written in a column, with its right half if it is wide (ECMA-48 section 6.1, graphic characters)
abbrev pub writing_source : Glyph → ℕ → ℕ → RowSource
writing_source x col c =
    if (c == col) then Fresh x
    else if (is_wide x && (c == col + 1)) then Fresh (right_of x)
    else Column c

-- cells are written beside each other, from a column on
abbrev pub written_run : List Glyph → ℕ → ℕ → RowSource
written_run cells col c = if (nat_le col c && nat_lt c (col + length cells)) then Fresh (glyph_at cells (c - col)) else Column c

-- the column of the character that a column is part of: of a pair the left half's
abbrev pub base_column : ℕ → List Glyph → ℕ → ℕ → ℕ
base_column cols cells row col = if is_right_half (cell_at cols cells row col) then col - 1 else col

-- a code point joins the character at a column of a row, if it joins that at all (this project's profile)
abbrev pub joined_rows : ℕ → ℕ → ℕ → Rows → Rows
joined_rows row col point v =
    let base = base_column v.cols v.cells row col in
    record v { cells = slice_set v.cells (row * v.cols + base) (with_point point (cell_at v.cols v.cells row base)) }

-- printable ASCII: each byte is 20 to 7E
abbrev pub ArePrintable : List ℕ → Type 0
ArePrintable bytes = (k : ℕ) → k < length bytes → (0x20 ≤ slice_index bytes k) × (slice_index bytes k < 0x7F)
