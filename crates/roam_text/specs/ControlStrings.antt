-- Control strings: APC, DCS, OSC, PM and SOS (ECMA-48 5.6).
use Rattle.std.specs.Prelude.{Bool, true, false, List, [], ◌∷◌}
use Rattle.std.specs.List.{flat_map}
use Rattle.roam_text.specs.declared.kinds.Kind.TheVariants.{Bell, Cancel, Escape, StringTerminator}
use Rattle.roam_text.specs.Log.{Sign, Character, Resize}
use Rattle.roam_text.specs.Inside.{Front, front_while, rest_while, size_functions}

-- inside a control string, which ends at ST, CAN, SUB or ESC, and at BEL if bell is true (ECMA-48 5.6; the ends of the VT220 and xterm)
abbrev pub in_control_string : Bool → Sign → Bool
in_control_string bell (Resize r c) = true
in_control_string bell (Character (Cancel b) c) = false
in_control_string bell (Character Escape c) = false
in_control_string bell (Character StringTerminator c) = false
in_control_string true (Character Bell c) = false
in_control_string bell (Character k c) = true

-- after the body: ESC is read anew, another end belongs to the string (this project's profile)
abbrev pub after_control_string : List Sign → List Sign
after_control_string [] = []
after_control_string (Character Escape c ∷ rest) = Character Escape c ∷ rest
after_control_string (s ∷ rest) = rest

-- a control string with its end: of its own it gives nothing (ECMA-48 5.6)
abbrev pub control_string : Bool → List Sign → Front
control_string bell rest =
    record {
      gives = flat_map size_functions (front_while (in_control_string bell) rest);
      left = after_control_string (rest_while (in_control_string bell) rest);
    }
