-- Marks of rows: the rows that functions may change. Each operation of the grid marks the rows that have a place which doesn't take itself,
-- on the state before it. A switch of screens, DECSCNM, DECALN, RIS and another size mark all (this project's profile).
use Rattle.std.specs.Prelude.{ℕ, ◌==◌, ◌&&◌, not, Bool, if◌then◌else◌, List, [], ◌∷◌, replicate, Option, Some, None}
use Rattle.roam_cells.specs.Width.{width_of}
use Rattle.roam_charset.specs.Charsets.{mapped_by}
use Rattle.roam_charset.specs.Sets.{in_use}
use Rattle.roam_controls.specs.Commands.{command_of, parameters_of}
use Rattle.roam_controls.specs.declared.commands.Command.{Command}
use Rattle.roam_controls.specs.declared.commands.Command.TheVariants.{Nothing, Prints, Moves, Erases, Edits, Shifts, Sets, Reports, Repeats}
use Rattle.roam_controls.specs.declared.edits.Edit.{Edit}
use Rattle.roam_controls.specs.declared.edits.Edit.TheVariants.{InsertCells, DeleteCells, InsertLines, DeleteLines, ScrollUp, ScrollDown, Align}
use Rattle.roam_controls.specs.declared.erasures.Erasure.{Erasure}
use Rattle.roam_controls.specs.declared.erasures.Erasure.TheVariants.{InPage, InLine, SelectivelyInPage, SelectivelyInLine, Cells}
use Rattle.roam_controls.specs.declared.motions.Motion.{Motion}
use Rattle.roam_controls.specs.declared.motions.Motion.TheVariants.{Backspace, CarriageReturn, LineFeed, Index, NextLine, Up, Down, Right, Left, NextLines, PreviousLines, Column, Row, Position, ReverseIndex, Tab, BackTab}
use Rattle.roam_controls.specs.declared.settings.Setting.{Setting}
use Rattle.roam_controls.specs.declared.settings.Setting.TheVariants.{Mode, PrivateMode, Rendition, Margins, Guard, Keypad, Save, Restore, SoftReset, Reset, SetStop, ClearStop, ClearStops}
use Rattle.roam_grid.specs.Cursor.{after_carriage_return}
use Rattle.roam_grid.specs.Marks.{all_on, marks_cells_moved, marks_erased_in_page, marks_erased_selectively_in_line, marks_erased_selectively_in_page, marks_in_line, marks_indexed, marks_joined, marks_lines_moved, marks_put, marks_put_all, marks_reverse_indexed, marks_scrolled}
use Rattle.roam_grid.specs.Screen.{Screen}
use Rattle.roam_text.specs.declared.functions.Function.{Function}
use Rattle.roam_text.specs.declared.functions.Function.TheVariants.{Print, C0, C1, Esc, Csi, Size}
use Rattle.roam_term.specs.Terminal.{Live, glyph_in, writing_under, is_alternate_mode, private_mode_set, changed_by}

-- the value of a terminal's screens for contracts: the live state, and the marks of 200 rows of the screen that is shown
pub record CanvasView : Type 0 where
  pub live : Live
  pub marks : List Bool

-- moves: the rows that go up by LF, VT, FF, IND and NEL, and down by RI
abbrev pub marks_moved_by : Motion → Screen → List Bool → List Bool
marks_moved_by LineFeed s marks = marks_indexed s marks
marks_moved_by Index s marks = marks_indexed s marks
marks_moved_by NextLine s marks = marks_indexed (after_carriage_return s) marks
marks_moved_by ReverseIndex s marks = marks_reverse_indexed s marks
marks_moved_by Backspace s marks = marks
marks_moved_by CarriageReturn s marks = marks
marks_moved_by (Up n) s marks = marks
marks_moved_by (Down n) s marks = marks
marks_moved_by (Right n) s marks = marks
marks_moved_by (Left n) s marks = marks
marks_moved_by (NextLines n) s marks = marks
marks_moved_by (PreviousLines n) s marks = marks
marks_moved_by (Column col) s marks = marks
marks_moved_by (Row row) s marks = marks
marks_moved_by (Position row col) s marks = marks
marks_moved_by (Tab n) s marks = marks
marks_moved_by (BackTab n) s marks = marks

-- cells and lines that come in, go out and scroll; DECALN marks all
abbrev pub marks_edited_by : Edit → Screen → List Bool → List Bool
marks_edited_by (InsertCells n) s marks = marks_cells_moved n s marks
marks_edited_by (DeleteCells n) s marks = marks_cells_moved n s marks
marks_edited_by (InsertLines n) s marks = marks_lines_moved n s marks
marks_edited_by (DeleteLines n) s marks = marks_lines_moved n s marks
marks_edited_by (ScrollUp n) s marks = marks_scrolled n s marks
marks_edited_by (ScrollDown n) s marks = marks_scrolled n s marks
marks_edited_by Align s marks = all_on

-- erasures
abbrev pub marks_erased_by : Erasure → Screen → List Bool → List Bool
marks_erased_by (InPage extent) s marks = marks_erased_in_page extent s marks
marks_erased_by (InLine extent) s marks = marks_in_line s marks
marks_erased_by (SelectivelyInPage extent) s marks = marks_erased_selectively_in_page extent s marks
marks_erased_by (SelectivelyInLine extent) s marks = marks_erased_selectively_in_line extent s marks
marks_erased_by (Cells n) s marks = marks_in_line s marks

-- a character as its set has it: one of width 0 joins, another is written
abbrev pub marks_written : ℕ → Live → List Bool → List Bool
marks_written c s marks =
    if width_of c == 0 then marks_joined c s.screen marks else marks_put (glyph_in c s.pen) (writing_under s.modes) s.screen marks

-- a printed character
abbrev pub marks_printed : ℕ → Live → List Bool → List Bool
marks_printed c s marks = marks_written (mapped_by (in_use s.sets) c) s marks

-- REP
abbrev pub marks_repeated : ℕ → Option ℕ → Live → List Bool → List Bool
marks_repeated n None s marks = marks
marks_repeated n (Some c) s marks =
    if width_of c == 0 then marks
    else marks_put_all (replicate n (glyph_in c s.pen)) (writing_under s.modes) s.screen marks

-- a screen is chosen: all rows if it isn't shown already
abbrev pub marks_chosen : Bool → Live → List Bool → List Bool
marks_chosen alternate s marks =
    if (alternate && not s.alternate) then all_on
    else if (not alternate && s.alternate) then all_on
    else marks

-- DECSCNM: all
abbrev pub marks_followed : ℕ → List Bool → List Bool
marks_followed p marks = if p == 5 then all_on else marks

-- a private mode
abbrev pub marks_private_mode : Bool → Live → ℕ → List Bool → List Bool
marks_private_mode on s p marks = if is_alternate_mode p then marks_chosen on s marks else marks_followed p marks

-- private modes one after another
abbrev pub marks_private_modes : Bool → Live → List ℕ → List Bool → List Bool
marks_private_modes on s [] marks = marks
marks_private_modes on s (p ∷ ps) marks = marks_private_modes on (private_mode_set on s p) ps (marks_private_mode on s p marks)

-- settings: a private mode may, and RIS marks all
abbrev pub marks_set_by : Setting → List ℕ → Live → List Bool → List Bool
marks_set_by (PrivateMode on) params s marks = marks_private_modes on s params marks
marks_set_by Reset params s marks = all_on
marks_set_by (Mode on) params s marks = marks
marks_set_by Rendition params s marks = marks
marks_set_by (Margins top bottom) params s marks = marks
marks_set_by (Guard on) params s marks = marks
marks_set_by (Keypad application) params s marks = marks
marks_set_by Save params s marks = marks
marks_set_by Restore params s marks = marks
marks_set_by SoftReset params s marks = marks
marks_set_by SetStop params s marks = marks
marks_set_by ClearStop params s marks = marks
marks_set_by ClearStops params s marks = marks

-- a command
abbrev pub marks_performed : Command → List ℕ → Live → List Bool → List Bool
marks_performed (Prints c) params s marks = marks_printed c s marks
marks_performed (Moves motion) params s marks = marks_moved_by motion s.screen marks
marks_performed (Erases erasure) params s marks = marks_erased_by erasure s.screen marks
marks_performed (Edits edit) params s marks = marks_edited_by edit s.screen marks
marks_performed (Sets setting) params s marks = marks_set_by setting params s marks
marks_performed (Repeats n) params s marks = marks_repeated n s.printed s marks
marks_performed Nothing params s marks = marks
marks_performed (Shifts shift) params s marks = marks
marks_performed (Reports report) params s marks = marks

-- a function, on the state before it; another size marks all
unfoldable pub marked_by : Function → Live → List Bool → List Bool
marked_by (Size rows cols) s marks = all_on
marked_by (Print c) s marks = marks_performed (command_of (Print c)) (parameters_of (Print c)) s marks
marked_by (C0 b) s marks = marks_performed (command_of (C0 b)) (parameters_of (C0 b)) s marks
marked_by (C1 b) s marks = marks_performed (command_of (C1 b)) (parameters_of (C1 b)) s marks
marked_by (Esc inter b) s marks = marks_performed (command_of (Esc inter b)) (parameters_of (Esc inter b)) s marks
marked_by (Csi marker params inter b) s marks =
    marks_performed (command_of (Csi marker params inter b)) (parameters_of (Csi marker params inter b)) s marks

-- functions one after another, each on the state that it meets
abbrev pub marked_through : Live → List Function → List Bool → List Bool
marked_through s [] marks = marks
marked_through s (f ∷ fs) marks = marked_through (changed_by f s) fs (marked_by f s marks)
