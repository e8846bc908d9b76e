-- The blanked places of erasures: from the cursor to the end, from the start to the cursor, or all, of the screen or of the cursor's row.
use Rattle.std.specs.Prelude.{ℕ, ◌+◌, Bool, true, false, not, ◌&&◌, ◌||◌, ◌==◌, nat_lt, nat_le, List, if◌then◌else◌}
use Rattle.roam_cells.specs.Glyph.{Glyph, blank}
use Rattle.roam_cells.specs.Place.{row_of, cell_at}
use Rattle.roam_rows.specs.Erasing.{erasure_source, unguarded_blanked}
use Rattle.roam_rows.specs.Places.{Source, From, Fresh, in_row}
use Rattle.roam_grid.specs.Screen.{Screen, mapped_screen}
use Rattle.roam_cells.specs.declared.extents.Extent.{Extent}
use Rattle.roam_cells.specs.declared.extents.Extent.TheVariants.{ToEnd, ToStart, All}

-- the columns of a row, from one on and before another, that an extent round a column names
abbrev pub line_from : Extent → ℕ → ℕ
line_from ToEnd col = col
line_from ToStart col = 0
line_from All col = 0

abbrev pub line_to : Extent → ℕ → ℕ → ℕ
line_to ToEnd cols col = cols
line_to ToStart cols col = col + 1
line_to All cols col = cols

-- the rows that it names whole, from one on and before another
abbrev pub page_from : Extent → ℕ → ℕ
page_from ToEnd row = row + 1
page_from ToStart row = 0
page_from All row = 0

abbrev pub page_to : Extent → ℕ → ℕ → ℕ
page_to ToEnd rows row = rows
page_to ToStart rows row = row
page_to All rows row = rows

-- whether a place is in reading order from a row and a column on, up to them, or anywhere
abbrev pub is_in_page : Extent → ℕ → ℕ → ℕ → ℕ → Bool
is_in_page ToEnd row col r c = nat_lt row r || ((r == row) && nat_le col c)
is_in_page ToStart row col r c = nat_lt r row || ((r == row) && nat_le c col)
is_in_page All row col r c = true

-- the places that an extent names become blank
abbrev pub page_blanked : Extent → ℕ → ℕ → ℕ → ℕ → Source
page_blanked extent row col r c = if is_in_page extent row col r c then Fresh blank else From r c

-- ED (ECMA-48 8.3.39): guarded cells too
unfoldable pub erased_in_page : Extent → Screen → Screen
erased_in_page extent s = record (mapped_screen (page_blanked extent s.row s.col) s) { pending = false }

-- EL (ECMA-48 8.3.41): guarded cells too
unfoldable pub erased_in_line : Extent → Screen → Screen
erased_in_line extent s =
    record (mapped_screen (in_row s.row (erasure_source (line_from extent s.col) (line_to extent s.cols s.col))) s) { pending = false }

-- those of the places that an extent names become blank that aren't guarded
abbrev pub page_unguarded_blanked : Extent → ℕ → List Glyph → ℕ → ℕ → ℕ → ℕ → Source
page_unguarded_blanked extent cols cells row col r c =
    if (is_in_page extent row col r c && not (cell_at cols cells r c).guarded) then Fresh blank else From r c

-- DECSED (VT220 Programmer Reference): guarded cells stay
unfoldable pub erased_selectively_in_page : Extent → Screen → Screen
erased_selectively_in_page extent s =
    record (mapped_screen (page_unguarded_blanked extent s.cols s.cells s.row s.col) s) { pending = false }

-- DECSEL (VT220 Programmer Reference): guarded cells stay
unfoldable pub erased_selectively_in_line : Extent → Screen → Screen
erased_selectively_in_line extent s =
    record (mapped_screen
    (in_row s.row (unguarded_blanked (row_of s.cols s.cells s.row) (line_from extent s.col) (line_to extent s.cols s.col))) s)
    { pending = false }
