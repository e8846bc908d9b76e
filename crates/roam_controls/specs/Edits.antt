-- Cells and lines that come in, go out and scroll: which function asks for which.
use Rattle.std.specs.Prelude.{ℕ, ◌==◌, if◌then◌else◌, List, Option, Some, None}
use Rattle.roam_controls.specs.declared.edits.Edit.{Edit}
use Rattle.roam_controls.specs.declared.edits.Edit.TheVariants.{InsertCells, DeleteCells, InsertLines, DeleteLines, ScrollUp, ScrollDown, Align}
use Rattle.roam_controls.specs.Parameters.{first, count}

-- ICH, IL, DL, DCH, SU, SD (ECMA-48, sections 8.3.64, 8.3.67, 8.3.32, 8.3.26, 8.3.147, 8.3.113)
abbrev pub edit_of : List ℕ → ℕ → Option Edit
edit_of params b =
    if b == 0x40 then Some (InsertCells (count (first params)))
    else if b == 0x4C then Some (InsertLines (count (first params)))
    else if b == 0x4D then Some (DeleteLines (count (first params)))
    else if b == 0x50 then Some (DeleteCells (count (first params)))
    else if b == 0x53 then Some (ScrollUp (count (first params)))
    else if b == 0x54 then Some (ScrollDown (count (first params)))
    else None

-- DECALN (VT220 Programmer Reference), after the intermediate byte #
abbrev pub hash_edit : ℕ → ℕ → Option Edit
hash_edit i b = if i == 0x23 then (if b == 0x38 then Some Align else None) else None
