-- Moves of the cursor.
use Rattle.std.specs.Prelude.{ℕ, ◌+◌, ◌-◌, Bool, false, ◌&&◌, ◌==◌, nat_lt, min, max, if◌then◌else◌}
use Rattle.roam_grid.specs.Screen.{Screen}
use Rattle.roam_grid.specs.Scrolling.{scrolled_up, first_scrolled_up, scrolled_down, first_scrolled_down}

-- one column to the left, not past the first (BS, ECMA-48 8.3.5)
unfoldable pub after_backspace : Screen → Screen
after_backspace s = record s { col = s.col - 1; pending = false }

-- to the first column (CR, ECMA-48 8.3.15)
unfoldable pub after_carriage_return : Screen → Screen
after_carriage_return s = record s { col = 0; pending = false }

-- One row down. On the bottom margin the rows between the margins go up, and on the last row below it nothing moves (IND, VT220 Programmer
-- Reference; LF, ECMA-48 8.3.74).
unfoldable pub after_index : Screen → Screen
after_index s =
    if (s.row == s.bottom) then record (scrolled_up 1 s) { pending = false }
    else if (s.row + 1 == s.rows) then record s { pending = false }
    else record s { row = s.row + 1; pending = false }

-- the place of the first row after IND
unfoldable pub first_indexed : Screen → ℕ → ℕ
first_indexed s first = if (s.row == s.bottom) then first_scrolled_up 1 s first else first

-- to a row and a column from 0, at most the last ones (CUP, ECMA-48 8.3.21)
unfoldable pub moved_to : ℕ → ℕ → Screen → Screen
moved_to row col s = record s { row = min row (s.rows - 1); col = min col (s.cols - 1); pending = false }

-- the row n above: not past the top margin from it or below it, else not past the first row
abbrev pub row_above : ℕ → Screen → ℕ
row_above n s = if nat_lt s.row s.top then s.row - n else max (s.row - n) s.top

-- the row n below: not past the bottom margin from it or above it, else not past the last row
abbrev pub row_below : ℕ → Screen → ℕ
row_below n s = if nat_lt s.bottom s.row then min (s.row + n) (s.rows - 1) else min (s.row + n) s.bottom

-- n rows up (CUU, ECMA-48 8.3.22)
unfoldable pub moved_up : ℕ → Screen → Screen
moved_up n s = record s { row = row_above n s; pending = false }

-- n rows down (CUD, ECMA-48 8.3.19)
unfoldable pub moved_down : ℕ → Screen → Screen
moved_down n s = record s { row = row_below n s; pending = false }

-- n columns to the right, not past the last (CUF, ECMA-48 8.3.20)
unfoldable pub moved_right : ℕ → Screen → Screen
moved_right n s = record s { col = min (s.col + n) (s.cols - 1); pending = false }

-- n columns to the left, not past the first (CUB, ECMA-48 8.3.18)
unfoldable pub moved_left : ℕ → Screen → Screen
moved_left n s = record s { col = s.col - n; pending = false }

-- no wrap is pending
unfoldable pub wrap_cleared : Screen → Screen
wrap_cleared s = record s { pending = false }

-- One row up. On the top margin the rows between the margins go down, and on the first row above it nothing moves (RI, VT220 Programmer
-- Reference).
unfoldable pub after_reverse_index : Screen → Screen
after_reverse_index s =
    if (s.row == s.top) then record (scrolled_down 1 s) { pending = false }
    else record s { row = s.row - 1; pending = false }

-- the place of the first row after RI
unfoldable pub first_reverse_indexed : Screen → ℕ → ℕ
first_reverse_indexed s first = if (s.row == s.top) then first_scrolled_down 1 s first else first

-- To a row and a column from 0, at most the last ones. A wrap is pending if it was saved as pending and the column is the last (DECRC,
-- VT220 Programmer Reference; this project's profile).
unfoldable pub after_restoring : ℕ → ℕ → Bool → Screen → Screen
after_restoring row col pending s =
    record s { row = min row (s.rows - 1); col = min col (s.cols - 1); pending = pending && (min col (s.cols - 1) + 1 == s.cols) }
