-- Cells and lines that come in, go out and scroll: their effect on a screen.
use Rattle.roam_grid.specs.Screen.{Screen}
use Rattle.roam_grid.specs.Editing.{cells_inserted, cells_deleted, lines_inserted, lines_deleted}
use Rattle.roam_grid.specs.Scrolling.{scrolled_up, scrolled_down}
use Rattle.roam_grid.specs.Frames.{after_alignment}
use Rattle.roam_controls.specs.declared.edits.Edit.{Edit}
use Rattle.roam_controls.specs.declared.edits.Edit.TheVariants.{InsertCells, DeleteCells, InsertLines, DeleteLines, ScrollUp, ScrollDown, Align}

abbrev pub edited_by : Edit → Screen → Screen
edited_by (InsertCells n) s = cells_inserted n s
edited_by (DeleteCells n) s = cells_deleted n s
edited_by (InsertLines n) s = lines_inserted n s
edited_by (DeleteLines n) s = lines_deleted n s
edited_by (ScrollUp n) s = scrolled_up n s
edited_by (ScrollDown n) s = scrolled_down n s
edited_by Align s = after_alignment s
