-- The functions of a log: each character that is printed is a Unicode scalar value, and each size is one of the log's.
use Rattle.std.proofs.Common.{◌≡◌, ℕ, zero, suc, ◌+◌, Bool, true, false, cond, List, [], ◌∷◌, ◌++◌, length, drop, map, Option, Some, None, refl}
use Rattle.std.specs.Char.{IsScalar}
use Rattle.std.specs.List.{flat_map}
use Rattle.bstr.specs.Utf8.{decoded, or_replacement}
use Rattle.bstr.proofs.lemmas.SoundLemmas.{SpellsChar-decoded}
use Rattle.roam_cells.specs.Limits.{IsSize}
use Rattle.roam_text.specs.declared.kinds.Kind.{Kind}
use Rattle.roam_text.specs.declared.kinds.Kind.TheVariants.{C0Control, Bell, Cancel, Escape, Digit, Colon, Separator, PrivateMarker, Upper, Lower, Delete, C1Control, StringOpening, CommandOpening, SequenceIntroducer, StringTerminator}
use Rattle.roam_text.specs.declared.functions.Function.{Function}
use Rattle.roam_text.specs.declared.functions.Function.TheVariants.{Print, Size}
use Rattle.roam_text.specs.Kinds.{kind_of}
use Rattle.roam_text.specs.Log.{Item, Byte, Resized, Sign, Character, Resize, character, is_unfinished, settled_from, settled_part, gained_characters, signs_after, signs}
use Rattle.roam_text.specs.Inside.{Front, front_while, rest_while, size_functions, acts}
use Rattle.roam_text.specs.ControlStrings.{in_control_string, after_control_string, control_string}
use Rattle.roam_text.specs.ControlSequences.{Header, in_control_sequence, body_of, header, intermediates, control_sequence_function, control_sequence, end_control_sequence}
use Rattle.roam_text.specs.EscapeSequences.{in_escape_sequence, escape_sequence_function, escape_sequence, c1_control, upper_final, end_escape_sequence}
use Rattle.roam_text.specs.Functions.{front, functions_from, functions, functions_of}
use Rattle.roam_term.specs.Screens.{AreSizes}

-- a property of each entry of a list
abbrev pub Each : {A : Type 0} → (A → Type 0) → List A → Type 0
Each P [] = Unit {0}
Each P (x ∷ xs) = P x × Each P xs

pub each-append : {A : Type 0} (P : A → Type 0) (xs ys : List A) → Each P xs → Each P ys → Each P (xs ++ ys)
each-append P [] ys h k = k
each-append P (x ∷ xs) ys h k = (h.0, each-append P xs ys h.1 k)

pub each-drop : {A : Type 0} (P : A → Type 0) (n : ℕ) (xs : List A) → Each P xs → Each P (drop n xs)
each-drop P zero xs h = h
each-drop P (suc n) [] h = tt
each-drop P (suc n) (x ∷ xs) h = each-drop P n xs h.1

each-flat : {A B : Type 0} (P : A → Type 0) (Q : B → Type 0) (f : A → List B) → ((x : A) → P x → Each Q (f x)) → (xs : List A) → Each P xs
    → Each Q (flat_map f xs)
each-flat P Q f one [] h = tt
each-flat P Q f one (x ∷ xs) h = each-append Q (f x) (flat_map f xs) (one x h.0) (each-flat P Q f one xs h.1)

-- a character is a scalar value, and a size is one that a screen may have
abbrev pub IsSign : Sign → Type 0
IsSign (Character k c) = IsScalar c
IsSign (Resize r c) = IsSize r c

-- the same of functions
abbrev pub IsProper : Function → Type 0
IsProper (Print c) = IsScalar c
IsProper (Size r c) = IsSize r c
IsProper f = Unit {0}

-- the functions and the rest of a front
record AreProper (f : Front) : Type 0 where
  gives : Each IsProper f.gives
  left : Each IsSign f.left

-- ---- fronts

front_each : (p : Sign → Bool) (xs : List Sign) → Each IsSign xs → Each IsSign (front_while p xs)
front_each p [] h = tt
front_each p (s ∷ xs) h = by_test (p s) (front_each p xs h.1)
  where
    by_test : (b : Bool) → Each IsSign (front_while p xs) → Each IsSign (cond b (s ∷ front_while p xs) [])
    by_test true rest = (h.0, rest)
    by_test false rest = tt

rest_each : (p : Sign → Bool) (xs : List Sign) → Each IsSign xs → Each IsSign (rest_while p xs)
rest_each p [] h = tt
rest_each p (s ∷ xs) h = by_test (p s) (rest_each p xs h.1)
  where
    by_test : (b : Bool) → Each IsSign (rest_while p xs) → Each IsSign (cond b (rest_while p xs) (s ∷ xs))
    by_test true rest = rest
    by_test false rest = h

resized_proper : (s : Sign) → IsSign s → Each IsProper (size_functions s)
resized_proper (Resize r c) h = (h, tt)
resized_proper (Character k c) h = tt

acts_proper : (s : Sign) → IsSign s → Each IsProper (acts s)
acts_proper (Resize r c) h = (h, tt)
acts_proper (Character (C0Control b) c) h = (tt, tt)
acts_proper (Character Bell c) h = (tt, tt)
acts_proper (Character k c) h = tt

after_string : (xs : List Sign) → Each IsSign xs → Each IsSign (after_control_string xs)
after_string [] h = tt
after_string (Character Escape c ∷ rest) h = h
after_string (s ∷ rest) h = h.1

string_proper : (bell : Bool) (xs : List Sign) → Each IsSign xs → AreProper (control_string bell xs)
string_proper bell xs h = record {
  gives = each-flat IsSign IsProper size_functions resized_proper (front_while (in_control_string bell) xs)
      (front_each (in_control_string bell) xs h);
  left = after_string (rest_while (in_control_string bell) xs) (rest_each (in_control_string bell) xs h);
}

sequence_function : (h : Option Header) (b : ℕ) → Each IsProper (control_sequence_function h b)
sequence_function None b = tt
sequence_function (Some h) b = (tt, tt)

end_sequence : (h : Option Header) (xs : List Sign) → Each IsSign xs → AreProper (end_control_sequence h xs)
end_sequence h [] k = record { gives = tt; left = tt }
end_sequence h (Character (Cancel b) c ∷ rest) k = record { gives = tt; left = k.1 }
end_sequence h (Character (Upper b) c ∷ rest) k = record { gives = sequence_function h b; left = k.1 }
end_sequence h (Character (Lower b) c ∷ rest) k = record { gives = sequence_function h b; left = k.1 }
end_sequence h (s ∷ rest) k = record { gives = tt; left = k }

sequence_proper : (xs : List Sign) → Each IsSign xs → AreProper (control_sequence xs)
sequence_proper xs h =
    let inside = front_while in_control_sequence xs in
    let end = end_sequence (header (body_of inside)) (rest_while in_control_sequence xs) (rest_each in_control_sequence xs h) in
    record {
      gives = each-append IsProper (flat_map acts inside)
          (end_control_sequence (header (body_of inside)) (rest_while in_control_sequence xs)).gives
          (each-flat IsSign IsProper acts acts_proper inside (front_each in_control_sequence xs h)) end.gives;
      left = end.left;
    }

control_proper : (k : Kind) (xs : List Sign) → Each IsSign xs → AreProper (c1_control k xs)
control_proper StringOpening xs h = string_proper false xs h
control_proper CommandOpening xs h = string_proper true xs h
control_proper SequenceIntroducer xs h = sequence_proper xs h
control_proper (C1Control b) xs h = record { gives = (tt, tt); left = h }
control_proper StringTerminator xs h = record { gives = (tt, tt); left = h }
control_proper k xs h = record { gives = tt; left = h }

escape_function : (inter : Option (List ℕ)) (b : ℕ) → Each IsProper (escape_sequence_function inter b)
escape_function None b = tt
escape_function (Some inter) b = (tt, tt)

final_proper : (inter : Option (List ℕ)) (b : ℕ) (xs : List Sign) → Each IsSign xs → AreProper (upper_final inter b xs)
final_proper (Some []) b xs h = control_proper (kind_of (b + 64)) xs h
final_proper (Some (i ∷ more)) b xs h = record { gives = escape_function (Some (i ∷ more)) b; left = h }
final_proper None b xs h = record { gives = escape_function None b; left = h }

end_escape : (inter : Option (List ℕ)) (xs : List Sign) → Each IsSign xs → AreProper (end_escape_sequence inter xs)
end_escape inter [] k = record { gives = tt; left = tt }
end_escape inter (Character (Cancel b) c ∷ rest) k = record { gives = tt; left = k.1 }
end_escape inter (Character (Digit b) c ∷ rest) k = record { gives = escape_function inter b; left = k.1 }
end_escape inter (Character Colon c ∷ rest) k = record { gives = escape_function inter 0x3A; left = k.1 }
end_escape inter (Character Separator c ∷ rest) k = record { gives = escape_function inter 0x3B; left = k.1 }
end_escape inter (Character (PrivateMarker b) c ∷ rest) k = record { gives = escape_function inter b; left = k.1 }
end_escape inter (Character (Upper b) c ∷ rest) k = final_proper inter b rest k.1
end_escape inter (Character (Lower b) c ∷ rest) k = record { gives = escape_function inter b; left = k.1 }
end_escape inter (s ∷ rest) k = record { gives = tt; left = k }

escape_proper : (xs : List Sign) → Each IsSign xs → AreProper (escape_sequence xs)
escape_proper xs h =
    let inside = front_while in_escape_sequence xs in
    let end = end_escape (intermediates (body_of inside)) (rest_while in_escape_sequence xs) (rest_each in_escape_sequence xs h) in
    record {
      gives = each-append IsProper (flat_map acts inside)
          (end_escape_sequence (intermediates (body_of inside)) (rest_while in_escape_sequence xs)).gives
          (each-flat IsSign IsProper acts acts_proper inside (front_each in_escape_sequence xs h)) end.gives;
      left = end.left;
    }

front_proper : (s : Sign) (rest : List Sign) → IsSign s → Each IsSign rest → AreProper (front s rest)
front_proper (Resize r c) rest h k = record { gives = (h, tt); left = k }
front_proper (Character (C0Control b) c) rest h k = record { gives = (tt, tt); left = k }
front_proper (Character Bell c) rest h k = record { gives = (tt, tt); left = k }
front_proper (Character (Cancel b) c) rest h k = record { gives = (tt, tt); left = k }
front_proper (Character Escape c) rest h k = escape_proper rest k
front_proper (Character Delete c) rest h k = record { gives = tt; left = k }
front_proper (Character (C1Control b) c) rest h k = control_proper (C1Control b) rest k
front_proper (Character StringOpening c) rest h k = control_proper StringOpening rest k
front_proper (Character CommandOpening c) rest h k = control_proper CommandOpening rest k
front_proper (Character SequenceIntroducer c) rest h k = control_proper SequenceIntroducer rest k
front_proper (Character StringTerminator c) rest h k = control_proper StringTerminator rest k
front_proper (Character k c) rest h m = record { gives = (h, tt); left = m }

functions_proper : (n : ℕ) (xs : List Sign) → Each IsSign xs → Each IsProper (functions_from n xs)
unfolding functions_from
functions_proper zero xs h = tt
functions_proper (suc n) [] h = tt
functions_proper (suc n) (s ∷ rest) h =
    let one = front_proper s rest h.0 h.1 in
    each-append IsProper (front s rest).gives (functions_from n (front s rest).left) one.gives
    (functions_proper n (front s rest).left one.left)

-- ---- characters of bytes

char_scalar : (bs : List ℕ) (o : Option ℕ) → (decoded bs).char ≡ o → IsScalar (or_replacement o)
char_scalar bs None e = refl
char_scalar bs (Some c) e = (SpellsChar-decoded bs c e).scalar

settled_scalars : (n : ℕ) (bs : List ℕ) → Each IsScalar (settled_from n bs)
unfolding settled_from
settled_scalars zero bs = tt
settled_scalars (suc n) bs = by_test (is_unfinished bs) (settled_scalars n (drop (decoded bs).size bs))
  where
    by_test : (b : Bool) → Each IsScalar (settled_from n (drop (decoded bs).size bs))
        → Each IsScalar (cond b [] (or_replacement (decoded bs).char ∷ settled_from n (drop (decoded bs).size bs)))
    by_test true rest = tt
    by_test false rest = (char_scalar bs (decoded bs).char refl, rest)

gained_scalars : (before : List ℕ) (b : ℕ) → Each IsScalar (gained_characters before b)
unfolding gained_characters settled_part
gained_scalars before b = each-drop IsScalar (length (settled_part before)) (settled_part (before ++ b ∷ []))
    (settled_scalars (length (before ++ b ∷ [])) (before ++ b ∷ []))

signs_of : (cs : List ℕ) → Each IsScalar cs → Each IsSign (map character cs)
signs_of [] h = tt
signs_of (c ∷ cs) h = (h.0, signs_of cs h.1)

signs_proper : (before : List ℕ) (log : List Item) → AreSizes log → Each IsSign (signs_after before log)
signs_proper before [] h = tt
signs_proper before (Byte b ∷ log) h =
    each-append IsSign (map character (gained_characters before b)) (signs_after (before ++ b ∷ []) log)
    (signs_of (gained_characters before b) (gained_scalars before b))
    (signs_proper (before ++ b ∷ []) log h)
signs_proper before (Resized r c ∷ log) h = (h.0, signs_proper before log h.1)

-- the prints and sizes among the functions of a log
pub log_proper : (log : List Item) → AreSizes log → Each IsProper (functions_of log)
unfolding functions
log_proper log h = functions_proper (length (signs log)) (signs log) (signs_proper [] log h)
