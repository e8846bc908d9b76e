-- SGR's aspects without further numbers (ECMA-48, section 8.3.117) as aspects of an ink: `with_aspect` is their effect.
use Rattle.std.specs.Prelude.{ℕ, ◌-◌, ◌==◌, ◌&&◌, nat_le, true, false, if◌then◌else◌}
use Rattle.roam_cells.specs.Aspects.{Aspect, Unchanged, Plain, Flagged, NeitherBoldNorFaint, Front, Back, Bold, Faint, Italic, Underline, Blink, Reverse, Conceal, Strike}
use Rattle.roam_cells.specs.declared.styles.Colour.TheVariants.{Default, Index}

-- 30 to 49 and 90 to 107
abbrev pub colour_aspect : ℕ → Aspect
colour_aspect p =
    if p == 39 then Front Default
    else if p == 49 then Back Default
    else if (nat_le 30 p && nat_le p 37) then Front (Index (p - 30))
    else if (nat_le 40 p && nat_le p 47) then Back (Index (p - 40))
    else if (nat_le 90 p && nat_le p 97) then Front (Index (p - 82))
    else if (nat_le 100 p && nat_le p 107) then Back (Index (p - 92))
    else Unchanged

-- 21 to 29, and those
abbrev pub ending_aspect : ℕ → Aspect
ending_aspect p =
    if p == 21 then Flagged Underline true
    else if p == 22 then NeitherBoldNorFaint
    else if p == 23 then Flagged Italic false
    else if p == 24 then Flagged Underline false
    else if p == 25 then Flagged Blink false
    else if p == 27 then Flagged Reverse false
    else if p == 28 then Flagged Conceal false
    else if p == 29 then Flagged Strike false
    else colour_aspect p

-- the aspect that a parameter sets
abbrev pub aspect_of : ℕ → Aspect
aspect_of p =
    if p == 0 then Plain
    else if p == 1 then Flagged Bold true
    else if p == 2 then Flagged Faint true
    else if p == 3 then Flagged Italic true
    else if p == 4 then Flagged Underline true
    else if p == 5 then Flagged Blink true
    else if p == 7 then Flagged Reverse true
    else if p == 8 then Flagged Conceal true
    else if p == 9 then Flagged Strike true
    else ending_aspect p
