-- Cells of a row that become blank.
use Rattle.std.specs.Prelude.{ℕ, not, ◌&&◌, nat_lt, nat_le, List, if◌then◌else◌}
use Rattle.roam_cells.specs.Glyph.{Glyph, blank}
use Rattle.roam_cells.specs.Place.{glyph_at, cell_at}
use Rattle.roam_rows.specs.Row.{RowSource}
use Rattle.roam_rows.specs.Places.{Source}

-- the columns from one on and before another become blank, guarded ones too (EL, ECMA-48 8.3.41; ECH, 8.3.38)
abbrev pub erasure_source : ℕ → ℕ → ℕ → RowSource
erasure_source from to c = if (nat_le from c && nat_lt c to) then RowSource.Fresh blank else RowSource.Column c

-- those of these columns that aren't guarded become blank (DECSEL, VT220 Programmer Reference)
abbrev pub unguarded_blanked : List Glyph → ℕ → ℕ → ℕ → RowSource
unguarded_blanked row from to c =
    if (nat_le from c && nat_lt c to && not (glyph_at row c).guarded) then RowSource.Fresh blank
    else RowSource.Column c

-- the rows from one on and before another become blank, guarded cells too (ED, ECMA-48 8.3.39)
abbrev pub rows_blanked : ℕ → ℕ → ℕ → ℕ → Source
rows_blanked from to r c = if (nat_le from r && nat_lt r to) then Source.Fresh blank else Source.From r c

-- those cells of these rows that aren't guarded become blank (DECSED, VT220 Programmer Reference)
abbrev pub rows_unguarded_blanked : ℕ → List Glyph → ℕ → ℕ → ℕ → ℕ → Source
rows_unguarded_blanked cols cells from to r c =
    if (nat_le from r && nat_lt r to && not (cell_at cols cells r c).guarded) then Source.Fresh blank
    else Source.From r c
