-- Control sequences: the characters between CSI and the final byte (ECMA-48 5.4).
use Rattle.std.specs.Prelude.{ℕ, ◌+◌, ◌-◌, ◌*◌, Bool, true, false, cond, nat_lt, ◌&&◌, min, List, [], ◌∷◌, ◌++◌, length, map, take, Option, None, Some}
use Rattle.std.specs.List.{flat_map}
use Rattle.roam_text.specs.declared.kinds.Kind.{Kind}
use Rattle.roam_text.specs.declared.kinds.Kind.TheVariants.{C0Control, Bell, Cancel, Intermediate, Digit, Colon, Separator, PrivateMarker, Upper, Lower, Delete}
use Rattle.roam_text.specs.declared.functions.Function.{Function}
use Rattle.roam_text.specs.declared.functions.Function.TheVariants.{Csi}
use Rattle.roam_text.specs.Log.{Sign, Character, Resize}
use Rattle.roam_text.specs.Inside.{Front, front_while, rest_while, acts}

-- inside a control sequence, before what ends it: parameter and intermediate bytes, and what acts at once or does nothing (ECMA-48 5.4)
abbrev pub in_control_sequence : Sign → Bool
in_control_sequence (Resize r c) = true
in_control_sequence (Character (C0Control b) c) = true
in_control_sequence (Character Bell c) = true
in_control_sequence (Character (Intermediate b) c) = true
in_control_sequence (Character (Digit b) c) = true
in_control_sequence (Character Colon c) = true
in_control_sequence (Character Separator c) = true
in_control_sequence (Character (PrivateMarker b) c) = true
in_control_sequence (Character Delete c) = true
in_control_sequence (Character k c) = false

-- the parameter and intermediate bytes of a sequence, without what acts at once (ECMA-48 5.4)
abbrev pub body_of : List Sign → List Kind
body_of [] = []
body_of (Character (Intermediate b) c ∷ rest) = Intermediate b ∷ body_of rest
body_of (Character (Digit b) c ∷ rest) = Digit b ∷ body_of rest
body_of (Character Colon c ∷ rest) = Colon ∷ body_of rest
body_of (Character Separator c ∷ rest) = Separator ∷ body_of rest
body_of (Character (PrivateMarker b) c ∷ rest) = PrivateMarker b ∷ body_of rest
body_of (s ∷ rest) = body_of rest

-- one more digit in front of the first parameter's digits
abbrev pub with_digit : ℕ → List (List ℕ) → List (List ℕ)
with_digit d [] = (d ∷ []) ∷ []
with_digit d (ds ∷ more) = (d ∷ ds) ∷ more

-- the digits of each parameter sub-string, which 3B separates (ECMA-48 5.4.2)
abbrev pub digits_of_parameters : List Kind → List (List ℕ)
digits_of_parameters [] = [] ∷ []
digits_of_parameters (Separator ∷ rest) = [] ∷ digits_of_parameters rest
digits_of_parameters (Digit b ∷ rest) = with_digit (b - 48) (digits_of_parameters rest)
digits_of_parameters (k ∷ rest) = digits_of_parameters rest

-- the number that n and then these digits spell (ECMA-48 5.4.2)
abbrev pub number_from : ℕ → List ℕ → ℕ
number_from n [] = n
number_from n (d ∷ ds) = number_from (10 * n + d) ds

-- a parameter's value: an empty one is 0, and it stops at 9,999 (this project's profile)
abbrev pub capped_value : List ℕ → ℕ
capped_value ds = min 9999 (number_from 0 ds)

-- a byte of a parameter string that is a digit or a separator (ECMA-48 5.4.2)
abbrev pub is_numeric : Kind → Bool
is_numeric (Digit b) = true
is_numeric Separator = true
is_numeric k = false

-- the longest front of bytes that all pass
abbrev pub kinds_while : (Kind → Bool) → List Kind → List Kind
kinds_while p [] = []
kinds_while p (k ∷ rest) = cond (p k) (k ∷ kinds_while p rest) []

-- the kinds behind that front
abbrev pub kinds_after : (Kind → Bool) → List Kind → List Kind
kinds_after p [] = []
kinds_after p (k ∷ rest) = cond (p k) (kinds_after p rest) (k ∷ rest)

-- whether there are intermediate bytes alone (ECMA-48 5.4)
abbrev pub all_inter : List Kind → Bool
all_inter [] = true
all_inter (Intermediate b ∷ rest) = all_inter rest
all_inter (k ∷ rest) = false

-- the codes of the intermediate bytes
abbrev pub codes : List Kind → List ℕ
codes [] = []
codes (Intermediate b ∷ rest) = b ∷ codes rest
codes (k ∷ rest) = codes rest

-- the intermediate bytes, if there is nothing else and there are at most two (this project's profile)
abbrev pub intermediates : List Kind → Option (List ℕ)
intermediates ks = cond (all_inter ks && nat_lt (length ks) 3) (Some (codes ks)) None

-- the part of a control sequence before its final byte: private marker, parameters, intermediate bytes (ECMA-48 5.4)
pub record Header : Type 0 where
  pub mark : Option ℕ
  pub params : List ℕ
  pub inter : List ℕ

-- the whole header, if the intermediate bytes are in order
abbrev pub with_inter : Option ℕ → List ℕ → Option (List ℕ) → Option Header
with_inter mark params None = None
with_inter mark params (Some inter) = Some (record { mark = mark; params = params; inter = inter })

-- the parameters that are kept (this project's profile)
unfoldable pub first_sixteen : List ℕ → List ℕ
first_sixteen params = take 16 params

-- the header after a private marker, or without one
abbrev pub header_after : Option ℕ → List Kind → Option Header
header_after mark body =
    with_inter mark (first_sixteen (map capped_value (digits_of_parameters (kinds_while is_numeric body))))
    (intermediates (kinds_after is_numeric body))

-- a private marker comes first of all (ECMA-48 5.4.1); none if the sequence is recognised without effect
abbrev pub header : List Kind → Option Header
header (PrivateMarker b ∷ body) = header_after (Some b) body
header body = header_after None body

-- the function of a control sequence with this final byte (ECMA-48 5.4)
abbrev pub control_sequence_function : Option Header → ℕ → List Function
control_sequence_function None b = []
control_sequence_function (Some h) b = Csi h.mark (record { items = h.params }) (record { items = h.inter }) b ∷ []

-- A final byte ends the sequence; CAN and SUB cancel it (VT220). Any other character that does not belong to it ends it and is read anew
-- (this project's profile).
abbrev pub end_control_sequence : Option Header → List Sign → Front
end_control_sequence h [] = record { gives = []; left = [] }
end_control_sequence h (Character (Cancel b) c ∷ rest) = record { gives = []; left = rest }
end_control_sequence h (Character (Upper b) c ∷ rest) = record { gives = control_sequence_function h b; left = rest }
end_control_sequence h (Character (Lower b) c ∷ rest) = record { gives = control_sequence_function h b; left = rest }
end_control_sequence h (s ∷ rest) = record { gives = []; left = s ∷ rest }

-- the front after what acted inside
abbrev pub behind : List Function → Front → Front
behind first f = record { gives = first ++ f.gives; left = f.left }

-- a control sequence after its introducer (ECMA-48 5.4)
abbrev pub control_sequence : List Sign → Front
control_sequence rest = behind (flat_map acts (front_while in_control_sequence rest))
    (end_control_sequence (header (body_of (front_while in_control_sequence rest))) (rest_while in_control_sequence rest))
