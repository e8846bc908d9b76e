-- Moves of the cursor: their effect on a screen.
use Rattle.std.specs.Prelude.{ℕ, ◌+◌, ◌-◌, min, Bool, if◌then◌else◌}
use Rattle.roam_grid.specs.Screen.{Screen}
use Rattle.roam_grid.specs.Tabbing.{after_tabs, after_back_tabs}
use Rattle.roam_grid.specs.Cursor.{after_backspace, after_carriage_return, after_index, after_reverse_index, moved_to, moved_up, moved_down, moved_right, moved_left}
use Rattle.roam_controls.specs.declared.modes.Modes.{Modes}
use Rattle.roam_controls.specs.declared.motions.Motion.{Motion}
use Rattle.roam_controls.specs.declared.motions.Motion.TheVariants.{Backspace, CarriageReturn, LineFeed, Index, NextLine, Up, Down, Right, Left, NextLines, PreviousLines, Column, Row, Position, ReverseIndex, Tab, BackTab}

-- a row from 1 as a row from 0: under DECOM from the top margin and at most the bottom margin
abbrev pub row_under : Bool → ℕ → Screen → ℕ
row_under origin row s = if origin then min (s.top + (row - 1)) s.bottom else row - 1

-- home: the first column of the first row, or of the top margin's under DECOM
abbrev pub after_home : Bool → Screen → Screen
after_home origin s = moved_to (row_under origin 1 s) 0 s

-- LF, VT and FF return to the first column too under LNM
abbrev pub moved_by : Motion → Modes → Screen → Screen
moved_by Backspace modes s = after_backspace s
moved_by CarriageReturn modes s = after_carriage_return s
moved_by LineFeed modes s = if modes.newline then after_carriage_return (after_index s) else after_index s
moved_by Index modes s = after_index s
moved_by NextLine modes s = after_index (after_carriage_return s)
moved_by (Up n) modes s = moved_up n s
moved_by (Down n) modes s = moved_down n s
moved_by (Right n) modes s = moved_right n s
moved_by (Left n) modes s = moved_left n s
moved_by (NextLines n) modes s = after_carriage_return (moved_down n s)
moved_by (PreviousLines n) modes s = after_carriage_return (moved_up n s)
moved_by ReverseIndex modes s = after_reverse_index s
moved_by (Tab n) modes s = after_tabs n s
moved_by (BackTab n) modes s = after_back_tabs n s
moved_by (Column col) modes s = moved_to s.row (col - 1) s
moved_by (Row row) modes s = moved_to (row_under modes.origin row s) s.col s
moved_by (Position row col) modes s = moved_to (row_under modes.origin row s) (col - 1) s
