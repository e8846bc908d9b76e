-- Erasures: which function asks for which.
use Rattle.std.specs.Prelude.{ℕ, ◌==◌, if◌then◌else◌, List, Option, Some, None}
use Rattle.roam_cells.specs.declared.extents.Extent.{Extent}
use Rattle.roam_cells.specs.declared.extents.Extent.TheVariants.{ToEnd, ToStart, All}
use Rattle.roam_controls.specs.declared.erasures.Erasure.{Erasure}
use Rattle.roam_controls.specs.declared.erasures.Erasure.TheVariants.{InPage, InLine, SelectivelyInPage, SelectivelyInLine, Cells}
use Rattle.roam_controls.specs.Parameters.{first, count}

-- the extent of a parameter of ED and EL (ECMA-48, sections 8.3.39 and 8.3.41); another one has none
abbrev pub extent_of : ℕ → Option Extent
extent_of p =
    if p == 0 then Some ToEnd
    else if p == 1 then Some ToStart
    else if p == 2 then Some All
    else None

abbrev pub in_page : Option Extent → Option Erasure
in_page (Some extent) = Some (InPage extent)
in_page None = None

abbrev pub in_line : Option Extent → Option Erasure
in_line (Some extent) = Some (InLine extent)
in_line None = None

-- ED, EL, ECH (ECMA-48, sections 8.3.39, 8.3.41 and 8.3.38)
abbrev pub erasure_of : List ℕ → ℕ → Option Erasure
erasure_of params b =
    if b == 0x4A then in_page (extent_of (first params))
    else if b == 0x4B then in_line (extent_of (first params))
    else if b == 0x58 then Some (Cells (count (first params)))
    else None

abbrev pub selectively_in_page : Option Extent → Option Erasure
selectively_in_page (Some extent) = Some (SelectivelyInPage extent)
selectively_in_page None = None

abbrev pub selectively_in_line : Option Extent → Option Erasure
selectively_in_line (Some extent) = Some (SelectivelyInLine extent)
selectively_in_line None = None

-- DECSED, DECSEL (VT220 Programmer Reference), after the private marker ?
abbrev pub private_erasure : List ℕ → ℕ → Option Erasure
private_erasure params b =
    if b == 0x4A then selectively_in_page (extent_of (first params))
    else if b == 0x4B then selectively_in_line (extent_of (first params))
    else None
