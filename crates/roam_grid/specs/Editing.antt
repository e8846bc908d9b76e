-- Cells and lines that come in and go out at the cursor.
use Rattle.std.specs.Prelude.{ℕ, ◌+◌, false, Bool, ◌&&◌, nat_le, min, if◌then◌else◌}
use Rattle.roam_rows.specs.Editing.{insertion_source, deletion_source}
use Rattle.roam_rows.specs.Erasing.{erasure_source}
use Rattle.roam_rows.specs.Places.{in_row}
use Rattle.roam_rows.specs.Scrolling.{up, down}
use Rattle.roam_grid.specs.Screen.{Screen, mapped_screen}
use Rattle.roam_grid.specs.Cursor.{wrap_cleared}

-- n blanks come in at the cursor (ICH, ECMA-48 8.3.64)
unfoldable pub cells_inserted : ℕ → Screen → Screen
cells_inserted n s = record (mapped_screen (in_row s.row (insertion_source s.col n)) s) { pending = false }

-- n cells go out at the cursor (DCH, ECMA-48 8.3.26)
unfoldable pub cells_deleted : ℕ → Screen → Screen
cells_deleted n s = record (mapped_screen (in_row s.row (deletion_source s.cols s.col n)) s) { pending = false }

-- n cells from the cursor on become blank (ECH, ECMA-48 8.3.38)
unfoldable pub cells_erased : ℕ → Screen → Screen
cells_erased n s = record (mapped_screen (in_row s.row (erasure_source s.col (min (s.col + n) s.cols))) s) { pending = false }

-- whether the cursor is between the margins
abbrev pub is_between_margins : Screen → Bool
is_between_margins s = nat_le s.top s.row && nat_le s.row s.bottom

-- between the margins n lines come in at the cursor's, and it goes to the first column (IL, ECMA-48 8.3.67)
unfoldable pub lines_inserted : ℕ → Screen → Screen
lines_inserted n s =
    if is_between_margins s then record (mapped_screen (down s.row s.bottom n) s) { col = 0; pending = false } else wrap_cleared s

-- between the margins n lines go out at the cursor's, and it goes to the first column (DL, ECMA-48 8.3.32)
unfoldable pub lines_deleted : ℕ → Screen → Screen
lines_deleted n s =
    if is_between_margins s then record (mapped_screen (up s.row s.bottom n) s) { col = 0; pending = false } else wrap_cleared s
