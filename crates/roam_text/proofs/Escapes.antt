-- ESC starts anew, whatever came before: the signs in front of it give the same as without it.
use Rattle.std.proofs.Common.{◌≡◌, ℕ, zero, suc, ◌+◌, ◌≤◌, Bool, true, false, cond, List, [], ◌∷◌, ◌++◌, length, Option, Some, refl, sym, ap, ◌∙◌, arith, append_assoc}
use Rattle.std.specs.List.{flat_map}
use Rattle.roam_text.specs.declared.kinds.Kind.{Kind}
use Rattle.roam_text.specs.declared.kinds.Kind.TheVariants.{Cancel, Escape, Upper, Lower, StringOpening, CommandOpening, SequenceIntroducer}
use Rattle.roam_text.specs.Kinds.{kind_of}
use Rattle.roam_text.specs.Log.{Sign, Character}
use Rattle.roam_text.specs.Inside.{Front, front_while, rest_while, acts, size_functions}
use Rattle.roam_text.specs.ControlStrings.{after_control_string, in_control_string, control_string}
use Rattle.roam_text.specs.ControlSequences.{Header, in_control_sequence, body_of, header, intermediates, behind, control_sequence, end_control_sequence}
use Rattle.roam_text.specs.EscapeSequences.{in_escape_sequence, escape_sequence, c1_control, upper_final, end_escape_sequence}
use Rattle.roam_text.specs.Functions.{front, functions}
use Rattle.roam_text.proofs.Fronts.{front-le, functions-nil, functions-step}

-- the end of a front does not depend on the signs behind it
pub front_while-end : (last : Sign) (tail : List Sign) (p : Sign → Bool) → p last ≡ false → (xs : List Sign)
    → front_while p (xs ++ last ∷ tail) ≡ front_while p xs
front_while-end last tail p e [] = ap (λ b. cond b (last ∷ front_while p tail) []) e
front_while-end last tail p e (s ∷ xs) = ap (λ l. cond (p s) (s ∷ l) []) (front_while-end last tail p e xs)

pub rest_while-end : (last : Sign) (tail : List Sign) (p : Sign → Bool) → p last ≡ false → (xs : List Sign)
    → rest_while p (xs ++ last ∷ tail) ≡ rest_while p xs ++ last ∷ tail
rest_while-end last tail p e [] = ap (λ b. cond b (rest_while p tail) (last ∷ tail)) e
rest_while-end last tail p e (s ∷ xs) =
    ap (λ l. cond (p s) l (s ∷ (xs ++ last ∷ tail))) (rest_while-end last tail p e xs)
    ∙ (elim (p s) as (λ b. cond b (rest_while p xs ++ last ∷ tail) (s ∷ (xs ++ last ∷ tail)) ≡ cond b (rest_while p xs) (s ∷ xs) ++ last ∷ tail)
    [ true ↦ refl | false ↦ refl ])

module _ (code : ℕ) (tail : List Sign) where
  abbrev escape : Sign
  escape = Character Escape code

  abbrev then_escape : Front → Front
  then_escape f = record { gives = f.gives; left = f.left ++ escape ∷ tail }

  after-escape : (xs : List Sign) → after_control_string (xs ++ escape ∷ tail) ≡ after_control_string xs ++ escape ∷ tail
  after-escape [] = refl
  after-escape (Character Escape c ∷ xs) = refl
  after-escape (s ∷ xs) = refl

  string-escape : (bell : Bool) (xs : List Sign) → control_string bell (xs ++ escape ∷ tail) ≡ then_escape (control_string bell xs)
  string-escape bell xs =
      ap (λ l. record { gives = flat_map size_functions l; left = after_control_string (rest_while (in_control_string bell) (xs ++ escape ∷ tail)) })
      (front_while-end escape tail (in_control_string bell) refl xs)
      ∙ ap (λ l. record { gives = flat_map size_functions (front_while (in_control_string bell) xs); left = l })
      (ap after_control_string (rest_while-end escape tail (in_control_string bell) refl xs) ∙ after-escape (rest_while (in_control_string bell) xs))

  end_control-escape : (h : Option Header) (xs : List Sign) → end_control_sequence h (xs ++ escape ∷ tail) ≡ then_escape (end_control_sequence h xs)
  end_control-escape h [] = refl
  end_control-escape h (Character (Cancel b) c ∷ xs) = refl
  end_control-escape h (Character (Upper b) c ∷ xs) = refl
  end_control-escape h (Character (Lower b) c ∷ xs) = refl
  end_control-escape h (s ∷ xs) = refl

  control-escape : (xs : List Sign) → control_sequence (xs ++ escape ∷ tail) ≡ then_escape (control_sequence xs)
  control-escape xs =
      ap (λ l. behind (flat_map acts l) (end_control_sequence (header (body_of l)) (rest_while in_control_sequence (xs ++ escape ∷ tail))))
      (front_while-end escape tail in_control_sequence refl xs)
      ∙ ap (λ f. behind (flat_map acts (front_while in_control_sequence xs)) f)
      (ap (end_control_sequence (header (body_of (front_while in_control_sequence xs)))) (rest_while-end escape tail in_control_sequence refl xs)
      ∙ end_control-escape (header (body_of (front_while in_control_sequence xs))) (rest_while in_control_sequence xs))

  c1-escape : (k : Kind) (xs : List Sign) → c1_control k (xs ++ escape ∷ tail) ≡ then_escape (c1_control k xs)
  c1-escape StringOpening xs = string-escape false xs
  c1-escape CommandOpening xs = string-escape true xs
  c1-escape SequenceIntroducer xs = control-escape xs
  c1-escape k xs = refl

  upper-escape : (inter : Option (List ℕ)) (b : ℕ) (xs : List Sign) → upper_final inter b (xs ++ escape ∷ tail) ≡ then_escape (upper_final inter b xs)
  upper-escape (Some []) b xs = c1-escape (kind_of (b + 64)) xs
  upper-escape inter b xs = refl

  end_escape-escape : (inter : Option (List ℕ)) (xs : List Sign) → end_escape_sequence inter (xs ++ escape ∷ tail) ≡ then_escape (end_escape_sequence inter xs)
  end_escape-escape inter [] = refl
  end_escape-escape inter (Character (Upper b) c ∷ xs) = upper-escape inter b xs
  end_escape-escape inter (s ∷ xs) = refl

  sequence-escape : (xs : List Sign) → escape_sequence (xs ++ escape ∷ tail) ≡ then_escape (escape_sequence xs)
  sequence-escape xs =
      ap (λ l. behind (flat_map acts l) (end_escape_sequence (intermediates (body_of l)) (rest_while in_escape_sequence (xs ++ escape ∷ tail))))
      (front_while-end escape tail in_escape_sequence refl xs)
      ∙ ap (λ f. behind (flat_map acts (front_while in_escape_sequence xs)) f)
      (ap (end_escape_sequence (intermediates (body_of (front_while in_escape_sequence xs)))) (rest_while-end escape tail in_escape_sequence refl xs)
      ∙ end_escape-escape (intermediates (body_of (front_while in_escape_sequence xs))) (rest_while in_escape_sequence xs))

  front-escape : (s : Sign) (xs : List Sign) → front s (xs ++ escape ∷ tail) ≡ then_escape (front s xs)
  front-escape (Character Escape c) xs = sequence-escape xs
  front-escape (Character StringOpening c) xs = string-escape false xs
  front-escape (Character CommandOpening c) xs = string-escape true xs
  front-escape (Character SequenceIntroducer c) xs = control-escape xs
  front-escape s xs = refl

  within : (n : ℕ) (xs : List Sign) → length xs ≤ n → functions (xs ++ escape ∷ tail) ≡ functions xs ++ functions (escape ∷ tail)
  within n [] few = sym (ap (λ l. l ++ functions (escape ∷ tail)) functions-nil)
  within zero (s ∷ xs) few = absurd (omega (arith, few))
  within (suc n) (s ∷ xs) few =
      let less = front-le s xs in
      functions-step s (xs ++ escape ∷ tail)
      ∙ ap (λ (f : Front). f.gives ++ functions f.left) (front-escape s xs)
      ∙ ap (λ l. (front s xs).gives ++ l) (within n (front s xs).left (omega (arith, few, less)))
      ∙ sym (append_assoc (front s xs).gives (functions (front s xs).left) (functions (escape ∷ tail)))
      ∙ sym (ap (λ l. l ++ functions (escape ∷ tail)) (functions-step s xs))

  -- ESC begins anew
  pub functions-escape : (xs : List Sign) → functions (xs ++ escape ∷ tail) ≡ functions xs ++ functions (escape ∷ tail)
  functions-escape xs = within (length xs) xs (omega arith)
