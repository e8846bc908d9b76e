-- Reports: the answers.
use Rattle.std.specs.Prelude.{ℕ, ◌+◌, ◌-◌, Bool, if◌then◌else◌, List, ◌++◌, ◌∷◌, codes, decimal}
use Rattle.roam_grid.specs.Screen.{Screen}
use Rattle.roam_controls.specs.declared.modes.Modes.{Modes}
use Rattle.roam_controls.specs.declared.reports.Report.{Report}
use Rattle.roam_controls.specs.declared.reports.Report.TheVariants.{Status, CursorPosition, Printer, PrimaryAttributes, SecondaryAttributes}

-- CSI and what follows
abbrev pub sequence : List ℕ → List ℕ
sequence rest = 0x1B ∷ 0x5B ∷ rest

-- the cursor's row from 1; under DECOM from the top margin, and 1 above it (CPR, ECMA-48 8.3.14; VT220)
abbrev pub reported_row : Bool → Screen → ℕ
reported_row origin s = if origin then s.row - s.top + 1 else s.row + 1

-- a terminal that is ready; a VT220 with selective erasure; version 1.0 of it; no printer (VT220 Programmer Reference, chapter 4)
abbrev pub answer_to : Report → Modes → Screen → List ℕ
answer_to Status modes s = sequence (codes "0n")
answer_to CursorPosition modes s = sequence (decimal (reported_row modes.origin s) ++ codes ";" ++ decimal (s.col + 1) ++ codes "R")
answer_to Printer modes s = sequence (codes "?13n")
answer_to PrimaryAttributes modes s = sequence (codes "?62;6c")
answer_to SecondaryAttributes modes s = sequence (codes ">1;10;0c")
