-- The last size of a log is the last one of its functions.
use Rattle.std.proofs.Common.{◌≡◌, ℕ, zero, suc, ◌+◌, ◌≤◌, Bool, true, false, cond, List, [], ◌∷◌, ◌++◌, length, map, Option, Some, None, refl, ap, ◌∙◌, arith}
use Rattle.std.specs.List.{flat_map}
use Rattle.roam_text.specs.declared.kinds.Kind.{Kind}
use Rattle.roam_text.specs.declared.kinds.Kind.TheVariants.{C0Control, Bell, Cancel, Escape, Digit, Colon, Separator, PrivateMarker, Upper, Lower, Delete, C1Control, StringOpening, CommandOpening, SequenceIntroducer, StringTerminator}
use Rattle.roam_text.specs.declared.functions.Function.{Function}
use Rattle.roam_text.specs.declared.functions.Function.TheVariants.{Print, C0, C1, Esc, Csi, Size}
use Rattle.roam_text.specs.Kinds.{kind_of}
use Rattle.roam_text.specs.Log.{Item, Byte, Resized, Sign, Character, Resize, character, gained_characters, signs_after, signs}
use Rattle.roam_text.specs.Inside.{Front, front_while, rest_while, size_functions, acts}
use Rattle.roam_text.specs.ControlStrings.{in_control_string, after_control_string, control_string}
use Rattle.roam_text.specs.ControlSequences.{Header, in_control_sequence, body_of, header, intermediates, control_sequence_function, control_sequence, end_control_sequence}
use Rattle.roam_text.specs.EscapeSequences.{in_escape_sequence, escape_sequence_function, escape_sequence, c1_control, upper_final, end_escape_sequence}
use Rattle.roam_text.specs.Functions.{front, functions_from, functions, functions_of}
use Rattle.roam_text.proofs.Fronts.{front-le}
use Rattle.roam_term.specs.Screens.{size_after}

-- the size after a function, after functions, and after signs
abbrev pub size_by : ℕ × ℕ → Function → ℕ × ℕ
size_by p (Size rows cols) = (rows, cols)
size_by p (Print c) = p
size_by p (C0 b) = p
size_by p (C1 b) = p
size_by p (Esc inter b) = p
size_by p (Csi marker params inter b) = p

abbrev pub sizes_by : ℕ × ℕ → List Function → ℕ × ℕ
sizes_by p [] = p
sizes_by p (f ∷ fs) = sizes_by (size_by p f) fs

abbrev size_in : ℕ × ℕ → Sign → ℕ × ℕ
size_in p (Resize rows cols) = (rows, cols)
size_in p (Character k c) = p

abbrev sizes_in : ℕ × ℕ → List Sign → ℕ × ℕ
sizes_in p [] = p
sizes_in p (s ∷ rest) = sizes_in (size_in p s) rest

by-append : (p : ℕ × ℕ) (fs gs : List Function) → sizes_by p (fs ++ gs) ≡ sizes_by (sizes_by p fs) gs
by-append p [] gs = refl
by-append p (f ∷ fs) gs = by-append (size_by p f) fs gs

in-append : (p : ℕ × ℕ) (xs ys : List Sign) → sizes_in p (xs ++ ys) ≡ sizes_in (sizes_in p xs) ys
in-append p [] ys = refl
in-append p (x ∷ xs) ys = in-append (size_in p x) xs ys

-- a front gives the sizes that it doesn't leave
abbrev Passes : List Sign → Front → Type 0
Passes xs f = (p : ℕ × ℕ) → sizes_in (sizes_by p f.gives) f.left ≡ sizes_in p xs

-- signs that pass inside a sequence give its sizes
while_passes : (test : Sign → Bool) (f : Sign → List Function) → ((p : ℕ × ℕ) (s : Sign) → sizes_by p (f s) ≡ size_in p s) →
    (xs : List Sign) (p : ℕ × ℕ)
    → sizes_in (sizes_by p (flat_map f (front_while test xs))) (rest_while test xs) ≡ sizes_in p xs
while_passes test f one [] p = refl
while_passes test f one (s ∷ xs) p = by_test (test s) (while_passes test f one xs)
  where
    by_test : (b : Bool) → ((q : ℕ × ℕ) → sizes_in (sizes_by q (flat_map f (front_while test xs))) (rest_while test xs) ≡ sizes_in q xs)
        → sizes_in (sizes_by p (flat_map f (cond b (s ∷ front_while test xs) []))) (cond b (rest_while test xs) (s ∷ xs)) ≡ sizes_in p
        (s ∷ xs)
    by_test true more =
        ap (λ q. sizes_in q (rest_while test xs)) (by-append p (f s) (flat_map f (front_while test xs)))
        ∙ more (sizes_by p (f s)) ∙ ap (λ q. sizes_in q xs) (one p s)
    by_test false more = refl

resized_one : (p : ℕ × ℕ) (s : Sign) → sizes_by p (size_functions s) ≡ size_in p s
resized_one p (Resize r c) = refl
resized_one p (Character k c) = refl

acts_one : (p : ℕ × ℕ) (s : Sign) → sizes_by p (acts s) ≡ size_in p s
acts_one p (Resize r c) = refl
acts_one p (Character (C0Control b) c) = refl
acts_one p (Character Bell c) = refl
acts_one p (Character k c) = refl

-- the end of a string, and the introducer there, is no size
after_passes : (bell : Bool) (xs : List Sign) (p : ℕ × ℕ)
    → sizes_in p (after_control_string (rest_while (in_control_string bell) xs)) ≡ sizes_in p (rest_while (in_control_string bell) xs)
after_passes bell [] p = refl
after_passes bell (Resize r c ∷ xs) p = after_passes bell xs p
after_passes bell (Character k c ∷ xs) p = by_test (in_control_string bell (Character k c)) (after_passes bell xs p)
  where
    ended : (k : Kind) → sizes_in p (after_control_string (Character k c ∷ xs)) ≡ sizes_in p xs
    ended Escape = refl
    ended k = refl

    by_test : (b : Bool) → sizes_in p (after_control_string (rest_while (in_control_string bell) xs)) ≡ sizes_in p
        (rest_while (in_control_string bell) xs)
        → sizes_in p (after_control_string (cond b (rest_while (in_control_string bell) xs) (Character k c ∷ xs)))
        ≡ sizes_in p (cond b (rest_while (in_control_string bell) xs) (Character k c ∷ xs))
    by_test true more = more
    by_test false more = ended k

string_passes : (bell : Bool) (xs : List Sign) → Passes xs (control_string bell xs)
string_passes bell xs p =
    after_passes bell xs (sizes_by p (flat_map size_functions (front_while (in_control_string bell) xs)))
    ∙ while_passes (in_control_string bell) size_functions resized_one xs p

none_in_sequence : (p : ℕ × ℕ) (h : Option Header) (b : ℕ) → sizes_by p (control_sequence_function h b) ≡ p
none_in_sequence p None b = refl
none_in_sequence p (Some h) b = refl

end_sequence : (h : Option Header) (xs : List Sign) → Passes xs (end_control_sequence h xs)
end_sequence h [] p = refl
end_sequence h (Character (Cancel b) c ∷ rest) p = refl
end_sequence h (Character (Upper b) c ∷ rest) p = ap (λ q. sizes_in q rest) (none_in_sequence p h b)
end_sequence h (Character (Lower b) c ∷ rest) p = ap (λ q. sizes_in q rest) (none_in_sequence p h b)
end_sequence h (s ∷ rest) p = refl

-- functions inside come before the end
behind_passes : (test : Sign → Bool) (xs : List Sign) (f : Front) → Passes (rest_while test xs) f → (p : ℕ × ℕ)
    → sizes_in (sizes_by p (flat_map acts (front_while test xs) ++ f.gives)) f.left ≡ sizes_in p xs
behind_passes test xs f passes p =
    ap (λ q. sizes_in q f.left) (by-append p (flat_map acts (front_while test xs)) f.gives)
    ∙ passes (sizes_by p (flat_map acts (front_while test xs))) ∙ while_passes test acts acts_one xs p

sequence_passes : (xs : List Sign) → Passes xs (control_sequence xs)
sequence_passes xs =
    let inside = front_while in_control_sequence xs in
    behind_passes in_control_sequence xs (end_control_sequence (header (body_of inside)) (rest_while in_control_sequence xs))
    (end_sequence (header (body_of inside)) (rest_while in_control_sequence xs))

control_passes : (k : Kind) (xs : List Sign) → Passes xs (c1_control k xs)
control_passes StringOpening xs p = string_passes false xs p
control_passes CommandOpening xs p = string_passes true xs p
control_passes SequenceIntroducer xs p = sequence_passes xs p
control_passes (C1Control b) xs p = refl
control_passes StringTerminator xs p = refl
control_passes k xs p = refl

none_in_escape : (p : ℕ × ℕ) (inter : Option (List ℕ)) (b : ℕ) → sizes_by p (escape_sequence_function inter b) ≡ p
none_in_escape p None b = refl
none_in_escape p (Some inter) b = refl

final_passes : (inter : Option (List ℕ)) (b : ℕ) (xs : List Sign) → Passes xs (upper_final inter b xs)
final_passes (Some []) b xs p = control_passes (kind_of (b + 64)) xs p
final_passes (Some (i ∷ more)) b xs p = refl
final_passes None b xs p = refl

end_escape : (inter : Option (List ℕ)) (xs : List Sign) → Passes xs (end_escape_sequence inter xs)
end_escape inter [] p = refl
end_escape inter (Character (Cancel b) c ∷ rest) p = refl
end_escape inter (Character (Digit b) c ∷ rest) p = ap (λ q. sizes_in q rest) (none_in_escape p inter b)
end_escape inter (Character Colon c ∷ rest) p = ap (λ q. sizes_in q rest) (none_in_escape p inter 0x3A)
end_escape inter (Character Separator c ∷ rest) p = ap (λ q. sizes_in q rest) (none_in_escape p inter 0x3B)
end_escape inter (Character (PrivateMarker b) c ∷ rest) p = ap (λ q. sizes_in q rest) (none_in_escape p inter b)
end_escape inter (Character (Upper b) c ∷ rest) p = final_passes inter b rest p
end_escape inter (Character (Lower b) c ∷ rest) p = ap (λ q. sizes_in q rest) (none_in_escape p inter b)
end_escape inter (s ∷ rest) p = refl

escape_passes : (xs : List Sign) → Passes xs (escape_sequence xs)
escape_passes xs =
    let inside = front_while in_escape_sequence xs in
    behind_passes in_escape_sequence xs (end_escape_sequence (intermediates (body_of inside)) (rest_while in_escape_sequence xs))
    (end_escape (intermediates (body_of inside)) (rest_while in_escape_sequence xs))

front_passes : (s : Sign) (rest : List Sign) → Passes (s ∷ rest) (front s rest)
front_passes (Resize r c) rest p = refl
front_passes (Character (C0Control b) c) rest p = refl
front_passes (Character Bell c) rest p = refl
front_passes (Character (Cancel b) c) rest p = refl
front_passes (Character Escape c) rest p = escape_passes rest p
front_passes (Character Delete c) rest p = refl
front_passes (Character (C1Control b) c) rest p = refl
front_passes (Character StringOpening c) rest p = string_passes false rest p
front_passes (Character CommandOpening c) rest p = string_passes true rest p
front_passes (Character SequenceIntroducer c) rest p = sequence_passes rest p
front_passes (Character StringTerminator c) rest p = refl
front_passes (Character k c) rest p = refl

functions_sizes : (n : ℕ) (xs : List Sign) (p : ℕ × ℕ) → length xs ≤ n → sizes_by p (functions_from n xs) ≡ sizes_in p xs
unfolding functions_from
functions_sizes zero [] p le = refl
functions_sizes zero (s ∷ rest) p le = absurd (omega (arith, le))
functions_sizes (suc n) [] p le = refl
functions_sizes (suc n) (s ∷ rest) p le =
    let f = front s rest in
    by-append p f.gives (functions_from n f.left)
    ∙ functions_sizes n f.left (sizes_by p f.gives) (omega (arith, front-le s rest, le))
    ∙ front_passes s rest p

none_in_characters : (p : ℕ × ℕ) (cs : List ℕ) → sizes_in p (map character cs) ≡ p
none_in_characters p [] = refl
none_in_characters p (c ∷ cs) = none_in_characters p cs

signs_sizes : (before : List ℕ) (log : List Item) (p : ℕ × ℕ) → sizes_in p (signs_after before log) ≡ size_after p log
signs_sizes before [] p = refl
signs_sizes before (Byte b ∷ log) p =
    in-append p (map character (gained_characters before b)) (signs_after (before ++ b ∷ []) log)
    ∙ ap (λ q. sizes_in q (signs_after (before ++ b ∷ []) log)) (none_in_characters p (gained_characters before b))
    ∙ signs_sizes (before ++ b ∷ []) log p
signs_sizes before (Resized r c ∷ log) p = signs_sizes before log (r, c)

pub log_sizes : (p : ℕ × ℕ) (log : List Item) → sizes_by p (functions_of log) ≡ size_after p log
unfolding functions
log_sizes p log = functions_sizes (length (signs log)) (signs log) p (omega arith) ∙ signs_sizes [] log p
