-- The rows that scroll off a screen at its top, the topmost first: by an index or a wrap on the bottom margin, and by a scroll up, if the
-- top margin is the first row (this project's profile).
use Rattle.std.specs.Prelude.{ℕ, zero, suc, ◌+◌, ◌==◌, ◌&&◌, min, if◌then◌else◌, List, [], ◌∷◌, ◌++◌}
use Rattle.roam_cells.specs.Glyph.{Glyph}
use Rattle.roam_cells.specs.Place.{row_of}
use Rattle.roam_controls.specs.declared.edits.Edit.{Edit}
use Rattle.roam_controls.specs.declared.edits.Edit.TheVariants.{InsertCells, DeleteCells, InsertLines, DeleteLines, ScrollUp, ScrollDown, Align}
use Rattle.roam_controls.specs.declared.motions.Motion.{Motion}
use Rattle.roam_controls.specs.declared.motions.Motion.TheVariants.{Backspace, CarriageReturn, LineFeed, Index, NextLine, Up, Down, Right, Left, NextLines, PreviousLines, Column, Row, Position, ReverseIndex, Tab, BackTab}
use Rattle.roam_grid.specs.Screen.{Screen}
use Rattle.roam_grid.specs.Writing.{columns, leaves_row, put_on}
use Rattle.roam_grid.specs.declared.writing.Writing.{Writing}

-- the first n rows of a screen
abbrev pub top_rows : ℕ → Screen → List (List Glyph)
top_rows zero s = []
top_rows (suc n) s = top_rows n s ++ row_of s.cols s.cells n ∷ []

-- an index scrolls the first row off if it scrolls
abbrev pub left_by_index : Screen → List (List Glyph)
left_by_index s = if (s.top == 0 && s.row == s.bottom) then top_rows 1 s else []

-- a written cell scrolls the first row off if it first scrolls
abbrev pub left_by_put : Glyph → Writing → Screen → List (List Glyph)
left_by_put x w s = if (s.top == 0 && leaves_row (columns x) w s) then top_rows 1 s else []

-- cells that are written one after another
abbrev pub left_by_puts : List Glyph → Writing → Screen → List (List Glyph)
left_by_puts [] w s = []
left_by_puts (x ∷ xs) w s = left_by_put x w s ++ left_by_puts xs w (put_on x w s)

-- a scroll up by n leaves n rows out, at most those down to the bottom margin
abbrev pub left_by_scroll : ℕ → Screen → List (List Glyph)
left_by_scroll n s = if s.top == 0 then top_rows (min n (s.bottom + 1)) s else []

-- moves that index: LF, VT, FF, IND and NEL
abbrev pub left_by_motion : Motion → Screen → List (List Glyph)
left_by_motion LineFeed s = left_by_index s
left_by_motion Index s = left_by_index s
left_by_motion NextLine s = left_by_index s
left_by_motion Backspace s = []
left_by_motion CarriageReturn s = []
left_by_motion (Up n) s = []
left_by_motion (Down n) s = []
left_by_motion (Right n) s = []
left_by_motion (Left n) s = []
left_by_motion (NextLines n) s = []
left_by_motion (PreviousLines n) s = []
left_by_motion (Column col) s = []
left_by_motion (Row row) s = []
left_by_motion (Position row col) s = []
left_by_motion ReverseIndex s = []
left_by_motion (Tab n) s = []
left_by_motion (BackTab n) s = []

-- edits that leave rows out: SU alone
abbrev pub left_by_edit : Edit → Screen → List (List Glyph)
left_by_edit (ScrollUp n) s = left_by_scroll n s
left_by_edit (InsertCells n) s = []
left_by_edit (DeleteCells n) s = []
left_by_edit (InsertLines n) s = []
left_by_edit (DeleteLines n) s = []
left_by_edit (ScrollDown n) s = []
left_by_edit Align s = []
