-- Graphic sets: the effect of a shift or a designation (ECMA-35, section 14; VT220 Programmer Reference, chapter 4).
use Rattle.std.specs.Prelude.{Some}
use Rattle.roam_charset.specs.Sets.{after_designation}
use Rattle.roam_charset.specs.declared.sets.Sets.{Sets}
use Rattle.roam_controls.specs.declared.shifts.Shift.{Shift}
use Rattle.roam_controls.specs.declared.shifts.Shift.TheVariants.{Locking, Single, Designation}

abbrev pub shifted_by : Shift → Sets → Sets
shifted_by (Locking element) sets = record sets { locked = element }
shifted_by (Single element) sets = record sets { single = Some element }
shifted_by (Designation element set) sets = after_designation element set sets
