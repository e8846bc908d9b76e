-- Escape sequences, and the C1 controls that they spell (ECMA-35 13, ECMA-48 5.3).
use Rattle.std.specs.Prelude.{ℕ, ◌+◌, Bool, true, false, List, [], ◌∷◌, Option, None, Some}
use Rattle.std.specs.List.{flat_map}
use Rattle.roam_text.specs.declared.kinds.Kind.{Kind}
use Rattle.roam_text.specs.declared.kinds.Kind.TheVariants.{C0Control, Bell, Cancel, Intermediate, Digit, Colon, Separator, PrivateMarker, Upper, Lower, Delete, C1Control, StringOpening, CommandOpening, SequenceIntroducer, StringTerminator}
use Rattle.roam_text.specs.declared.functions.Function.{Function}
use Rattle.roam_text.specs.declared.functions.Function.TheVariants.{C1, Esc}
use Rattle.roam_text.specs.Kinds.{kind_of}
use Rattle.roam_text.specs.Log.{Sign, Character, Resize}
use Rattle.roam_text.specs.Inside.{Front, front_while, rest_while, acts}
use Rattle.roam_text.specs.ControlStrings.{control_string}
use Rattle.roam_text.specs.ControlSequences.{body_of, intermediates, behind, control_sequence}

-- a C1 control, or the sequence or string that it introduces (ECMA-48 5.3)
abbrev pub c1_control : Kind → List Sign → Front
c1_control StringOpening rest = control_string false rest
c1_control CommandOpening rest = control_string true rest
c1_control SequenceIntroducer rest = control_sequence rest
c1_control (C1Control b) rest = record { gives = C1 b ∷ []; left = rest }
c1_control StringTerminator rest = record { gives = C1 0x9C ∷ []; left = rest }
c1_control k rest = record { gives = []; left = rest }

-- inside an escape sequence, before what ends it: intermediate bytes, and what acts at once or does nothing (ECMA-35 13)
abbrev pub in_escape_sequence : Sign → Bool
in_escape_sequence (Resize r c) = true
in_escape_sequence (Character (C0Control b) c) = true
in_escape_sequence (Character Bell c) = true
in_escape_sequence (Character (Intermediate b) c) = true
in_escape_sequence (Character Delete c) = true
in_escape_sequence (Character k c) = false

-- the function of an escape sequence with this final byte (ECMA-35 13)
abbrev pub escape_sequence_function : Option (List ℕ) → ℕ → List Function
escape_sequence_function None b = []
escape_sequence_function (Some inter) b = Esc (record { items = inter }) b ∷ []

-- without intermediate bytes a final byte of 40 to 5F is the C1 control 40 higher (ECMA-48 5.3)
abbrev pub upper_final : Option (List ℕ) → ℕ → List Sign → Front
upper_final (Some []) b rest = c1_control (kind_of (b + 64)) rest
upper_final inter b rest = record { gives = escape_sequence_function inter b; left = rest }

-- A final byte of 30 to 7E ends the sequence; CAN and SUB cancel it. Any other character that does not belong to it ends it and is read
-- anew.
abbrev pub end_escape_sequence : Option (List ℕ) → List Sign → Front
end_escape_sequence inter [] = record { gives = []; left = [] }
end_escape_sequence inter (Character (Cancel b) c ∷ rest) = record { gives = []; left = rest }
end_escape_sequence inter (Character (Digit b) c ∷ rest) = record { gives = escape_sequence_function inter b; left = rest }
end_escape_sequence inter (Character Colon c ∷ rest) = record { gives = escape_sequence_function inter 0x3A; left = rest }
end_escape_sequence inter (Character Separator c ∷ rest) = record { gives = escape_sequence_function inter 0x3B; left = rest }
end_escape_sequence inter (Character (PrivateMarker b) c ∷ rest) = record { gives = escape_sequence_function inter b; left = rest }
end_escape_sequence inter (Character (Upper b) c ∷ rest) = upper_final inter b rest
end_escape_sequence inter (Character (Lower b) c ∷ rest) = record { gives = escape_sequence_function inter b; left = rest }
end_escape_sequence inter (s ∷ rest) = record { gives = []; left = s ∷ rest }

-- an escape sequence after ESC (ECMA-35 13)
abbrev pub escape_sequence : List Sign → Front
escape_sequence rest = behind (flat_map acts (front_while in_escape_sequence rest))
    (end_escape_sequence (intermediates (body_of (front_while in_escape_sequence rest))) (rest_while in_escape_sequence rest))
