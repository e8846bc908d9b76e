-- Writing characters at the cursor.
use Rattle.std.specs.Prelude.{ℕ, ◌+◌, ◌-◌, Bool, true, ◌&&◌, ◌==◌, nat_lt, List, [], ◌∷◌, if◌then◌else◌}
use Rattle.roam_cells.specs.Glyph.{Glyph, is_wide}
use Rattle.roam_rows.specs.Places.{in_row}
use Rattle.roam_rows.specs.Editing.{insertion_source}
use Rattle.roam_rows.specs.Writing.{writing_source, joined_rows}
use Rattle.roam_grid.specs.Screen.{Screen, mapped_screen}
use Rattle.roam_grid.specs.Scrolling.{first_scrolled_up}
use Rattle.roam_grid.specs.Cursor.{after_carriage_return, after_index, first_indexed}
use Rattle.roam_grid.specs.declared.writing.Writing.{Writing}

-- the columns that a cell takes
abbrev pub columns : Glyph → ℕ
columns x = if is_wide x then 2 else 1

-- to the first column of the next row
unfoldable pub after_wrap : Screen → Screen
after_wrap s = after_index (after_carriage_return s)

-- a pending wrap is done (DECAWM, VT220 Programmer Reference)
unfoldable pub wrap_done : Screen → Screen
wrap_done s = if s.pending then after_wrap s else s

-- the place of the first row after that
unfoldable pub first_settled : Screen → ℕ → ℕ
first_settled s first = if s.pending then first_indexed s first else first

-- a cell of two columns in the last column goes to the next row, and without DECAWM one column to the left
unfoldable pub with_room : ℕ → Writing → Screen → Screen
with_room width w s =
    if ((width == 2) && (s.col + 1 == s.cols)) then (if w.wraps then after_wrap s else record s { col = s.cols - 2 })
    else s

-- the place of the first row after that
unfoldable pub first_with_room : ℕ → Writing → Screen → ℕ → ℕ
first_with_room width w s first = if ((width == 2) && (s.col + 1 == s.cols) && w.wraps) then first_indexed s first else first

-- under IRM blanks come in at the place of the cell (ECMA-48 section 7.2.10; ICH, 8.3.64)
unfoldable pub made_way : ℕ → Writing → Screen → Screen
made_way width w s = if w.inserts then mapped_screen (in_row s.row (insertion_source s.col width)) s else s

-- the cell is written at the cursor, with its right half if it is wide
unfoldable pub after_ink : Glyph → Screen → Screen
after_ink x s = mapped_screen (in_row s.row (writing_source x s.col)) s

-- the cursor goes a number of columns to the right; past the last column it stays there, with a wrap pending under DECAWM
unfoldable pub after_advance : ℕ → Writing → Screen → Screen
after_advance n w s =
    if nat_lt (s.col + n) s.cols then record s { col = s.col + n }
    else record s { col = s.cols - 1; pending = w.wraps }

-- a cell of one or two columns is written
unfoldable pub put_on : Glyph → Writing → Screen → Screen
put_on x w s = after_advance (columns x) w (after_ink x (made_way (columns x) w (with_room (columns x) w (wrap_done s))))

-- whether writing a cell of so many columns first scrolls a row out at the top margin
unfoldable pub leaves_row : ℕ → Writing → Screen → Bool
leaves_row width w s = (s.row == s.bottom) && (if s.pending then true else (width == 2) && (s.col + 1 == s.cols) && w.wraps)

-- the place of the first row after a cell is written
unfoldable pub first_put : Glyph → Writing → Screen → ℕ → ℕ
first_put x w s first = if leaves_row (columns x) w s then first_scrolled_up 1 s first else first

-- cells are written one after another
unfoldable pub put_all : List Glyph → Writing → Screen → Screen
put_all [] w s = s
put_all (x ∷ xs) w s = put_all xs w (put_on x w s)

-- the place of the first row after that
unfoldable pub first_put_all : List Glyph → Writing → Screen → ℕ → ℕ
first_put_all [] w s first = first
first_put_all (x ∷ xs) w s first = first_put_all xs w (put_on x w s) (first_put x w s first)

-- the cells after a code point has joined the character in a column of the cursor's row
abbrev pub joined_in : ℕ → ℕ → Screen → Screen
joined_in col c s =
    record s { cells = (joined_rows s.row col c (record { rows = s.rows; cols = s.cols; cells = s.cells; first = 0 })).cells }

-- A character of width 0 joins the cell before the cursor, and with a wrap pending the cursor's. In the first column with no wrap pending
-- it is dropped (this project's profile).
unfoldable pub joined_on : ℕ → Screen → Screen
joined_on c s =
    if s.pending then joined_in s.col c s
    else if (s.col == 0) then s
    else joined_in (s.col - 1) c s
