-- Graphic sets: which function designates or invokes which (ECMA-35, section 14; VT220 Programmer Reference, chapter 4).
use Rattle.std.specs.Prelude.{ℕ, ◌==◌, if◌then◌else◌, Option, Some, None}
use Rattle.roam_charset.specs.declared.charsets.Charset.{Charset}
use Rattle.roam_charset.specs.declared.charsets.Charset.TheVariants.{Ascii, UnitedKingdom, DecSpecialGraphics}
use Rattle.roam_charset.specs.declared.sets.Element.{Element}
use Rattle.roam_charset.specs.declared.sets.Element.TheVariants.{G0, G1, G2, G3}
use Rattle.roam_controls.specs.declared.shifts.Shift.{Shift}
use Rattle.roam_controls.specs.declared.shifts.Shift.TheVariants.{Locking, Single, Designation}

-- SO and SI are LS1 and LS0 (ECMA-48, sections 8.3.126 and 8.3.119)
abbrev pub c0_shift : ℕ → Option Shift
c0_shift b =
    if b == 0x0E then Some (Locking G1)
    else if b == 0x0F then Some (Locking G0)
    else None

-- SS2, SS3 (ECMA-48, sections 8.3.141 and 8.3.142)
abbrev pub c1_shift : ℕ → Option Shift
c1_shift b =
    if b == 0x8E then Some (Single G2)
    else if b == 0x8F then Some (Single G3)
    else None

-- LS2, LS3 (ECMA-48, sections 8.3.78 and 8.3.80)
abbrev pub locking_shift : ℕ → Option Shift
locking_shift b =
    if b == 0x6E then Some (Locking G2)
    else if b == 0x6F then Some (Locking G3)
    else None

-- the element that an intermediate byte designates to (ECMA-35, section 14.3: sets of 94 characters)
abbrev pub element_of : ℕ → Option Element
element_of i =
    if i == 0x28 then Some G0
    else if i == 0x29 then Some G1
    else if i == 0x2A then Some G2
    else if i == 0x2B then Some G3
    else None

-- the set that a final byte designates (VT220 Programmer Reference, chapter 4: SCS)
abbrev pub charset_of : ℕ → Option Charset
charset_of b =
    if b == 0x30 then Some DecSpecialGraphics
    else if b == 0x41 then Some UnitedKingdom
    else if b == 0x42 then Some Ascii
    else None

abbrev pub designation_to : Option Element → Option Charset → Option Shift
designation_to (Some element) (Some set) = Some (Designation element set)
designation_to (Some element) None = None
designation_to None set = None

-- a designation, of an intermediate byte and a final byte
abbrev pub designation_of : ℕ → ℕ → Option Shift
designation_of i b = designation_to (element_of i) (charset_of b)
