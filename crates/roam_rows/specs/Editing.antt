-- Cells that come in and go out of a row.
use Rattle.std.specs.Prelude.{ℕ, ◌+◌, ◌-◌, nat_lt, if◌then◌else◌}
use Rattle.roam_cells.specs.Glyph.{blank}
use Rattle.roam_rows.specs.Row.{RowSource, Column, Fresh}

-- n blanks come in at a column; the cells from there on go to the right, and the last ones are lost (ICH, ECMA-48 8.3.64)
abbrev pub insertion_source : ℕ → ℕ → ℕ → RowSource
insertion_source col n c =
    if nat_lt c col then Column c
    else if nat_lt c (col + n) then Fresh blank
    else Column (c - n)

-- n cells go out at a column; those right of them go to the left, and blanks come in at the right edge (DCH, ECMA-48 8.3.26)
abbrev pub deletion_source : ℕ → ℕ → ℕ → ℕ → RowSource
deletion_source cols col n c =
    if nat_lt c col then Column c
    else if nat_lt (c + n) cols then Column (c + n)
    else Fresh blank
