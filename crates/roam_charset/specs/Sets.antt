-- Designations and shifts.
use Rattle.std.specs.Prelude.{None, unwrap_or}
use Rattle.roam_charset.specs.declared.charsets.Charset.{Charset}
use Rattle.roam_charset.specs.declared.charsets.Charset.TheVariants.{Ascii}
use Rattle.roam_charset.specs.declared.sets.Element.{Element}
use Rattle.roam_charset.specs.declared.sets.Element.TheVariants.{G0, G1, G2, G3}
use Rattle.roam_charset.specs.declared.sets.Sets.{Sets}

-- ASCII everywhere, G0 invoked (VT220 Programmer Reference, RIS)
abbrev pub started_sets : Sets
started_sets = record { g0 = Ascii; g1 = Ascii; g2 = Ascii; g3 = Ascii; locked = G0; single = None }

-- a set is designated to an element (ECMA-35, section 14.3)
abbrev pub after_designation : Element → Charset → Sets → Sets
after_designation G0 set s = record s { g0 = set }
after_designation G1 set s = record s { g1 = set }
after_designation G2 set s = record s { g2 = set }
after_designation G3 set s = record s { g3 = set }

-- the set that is designated to an element
abbrev pub set_in : Element → Sets → Charset
set_in G0 s = s.g0
set_in G1 s = s.g1
set_in G2 s = s.g2
set_in G3 s = s.g3

-- the set of the next printed character: a single shift comes before the locking shift (ECMA-35; ECMA-48, sections 8.3.75 to 8.3.80,
-- 8.3.141 and 8.3.142)
abbrev pub in_use : Sets → Charset
in_use s = set_in (unwrap_or s.single s.locked) s

-- a single shift is spent by a printed character
abbrev pub spent : Sets → Sets
spent s = record s { single = None }
