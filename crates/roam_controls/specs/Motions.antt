-- Moves of the cursor: which function asks for which.
use Rattle.std.specs.Prelude.{ℕ, ◌==◌, if◌then◌else◌, List, Option, Some, None}
use Rattle.roam_controls.specs.declared.motions.Motion.{Motion}
use Rattle.roam_controls.specs.declared.motions.Motion.TheVariants.{Backspace, CarriageReturn, LineFeed, Index, NextLine, Up, Down, Right, Left, NextLines, PreviousLines, Column, Row, Position, ReverseIndex, Tab, BackTab}
use Rattle.roam_controls.specs.Parameters.{first, second, count}

-- BS, HT, LF, VT, FF, CR (ECMA-48, sections 8.3.5, 8.3.60, 8.3.74, 8.3.161, 8.3.51, 8.3.15)
abbrev pub c0_motion : ℕ → Option Motion
c0_motion b =
    if b == 0x08 then Some Backspace
    else if b == 0x09 then Some (Tab 1)
    else if b == 0x0A then Some LineFeed
    else if b == 0x0B then Some LineFeed
    else if b == 0x0C then Some LineFeed
    else if b == 0x0D then Some CarriageReturn
    else None

-- IND (VT220), NEL, RI (ECMA-48, sections 8.3.86 and 8.3.104)
abbrev pub c1_motion : ℕ → Option Motion
c1_motion b =
    if b == 0x84 then Some Index
    else if b == 0x85 then Some NextLine
    else if b == 0x8D then Some ReverseIndex
    else None

-- CHT, CBT, HPA, HPR, VPA, VPR, HVP (ECMA-48, sections 8.3.10, 8.3.7, 8.3.57, 8.3.59, 8.3.158, 8.3.160, 8.3.63)
abbrev pub later_motion : List ℕ → ℕ → Option Motion
later_motion params b =
    if b == 0x49 then Some (Tab (count (first params)))
    else if b == 0x5A then Some (BackTab (count (first params)))
    else if b == 0x60 then Some (Column (count (first params)))
    else if b == 0x61 then Some (Right (count (first params)))
    else if b == 0x64 then Some (Row (count (first params)))
    else if b == 0x65 then Some (Down (count (first params)))
    else if b == 0x66 then Some (Position (count (first params)) (count (second params)))
    else None

-- CUU, CUD, CUF, CUB, CNL, CPL, CHA, CUP (ECMA-48, sections 8.3.22, 8.3.19, 8.3.20, 8.3.18, 8.3.12, 8.3.13, 8.3.9, 8.3.21)
abbrev pub motion_of : List ℕ → ℕ → Option Motion
motion_of params b =
    if b == 0x41 then Some (Up (count (first params)))
    else if b == 0x42 then Some (Down (count (first params)))
    else if b == 0x43 then Some (Right (count (first params)))
    else if b == 0x44 then Some (Left (count (first params)))
    else if b == 0x45 then Some (NextLines (count (first params)))
    else if b == 0x46 then Some (PreviousLines (count (first params)))
    else if b == 0x47 then Some (Column (count (first params)))
    else if b == 0x48 then Some (Position (count (first params)) (count (second params)))
    else later_motion params b
