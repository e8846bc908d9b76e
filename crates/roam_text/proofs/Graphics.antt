-- A graphic character behind some signs is printed, or falls into a control string.
use Rattle.std.proofs.Common.{◌≡◌, ℕ, zero, suc, ◌+◌, ◌≤◌, Bool, true, false, cond, List, [], ◌∷◌, ◌++◌, length, Option, Some, refl, sym, ap, ◌∙◌, arith, append_assoc}
use Rattle.std.proofs.lemmas.List.{append-nil}
use Rattle.std.specs.List.{flat_map}
use Rattle.roam_text.specs.declared.kinds.Kind.{Kind}
use Rattle.roam_text.specs.declared.kinds.Kind.TheVariants.{Cancel, Escape, Upper, Lower, StringOpening, CommandOpening, SequenceIntroducer, Graphic}
use Rattle.roam_text.specs.declared.functions.Function.{Function}
use Rattle.roam_text.specs.declared.functions.Function.TheVariants.{Print}
use Rattle.roam_text.specs.Kinds.{kind_of}
use Rattle.roam_text.specs.Log.{Sign, Character}
use Rattle.roam_text.specs.Inside.{Front, front_while, rest_while, acts, size_functions}
use Rattle.roam_text.specs.ControlStrings.{after_control_string, in_control_string, control_string}
use Rattle.roam_text.specs.ControlSequences.{Header, in_control_sequence, body_of, header, intermediates, behind, control_sequence, end_control_sequence}
use Rattle.roam_text.specs.EscapeSequences.{in_escape_sequence, escape_sequence, c1_control, upper_final, end_escape_sequence}
use Rattle.roam_text.specs.Functions.{front, functions}
use Rattle.roam_text.proofs.Fronts.{front-le, functions-nil, functions-step}
use Rattle.roam_text.proofs.Escapes.{front_while-end, rest_while-end}

module _ (code : ℕ) where
  abbrev graphic : Sign
  graphic = Character Graphic code

  -- the character is left behind a front, or belongs to it
  abbrev left_if : Bool → List Sign
  left_if true = graphic ∷ []
  left_if false = []

  abbrev pub printed_if : Bool → List Function
  printed_if true = Print code ∷ []
  printed_if false = []

  -- a front goes on in the same way, with the character left behind it or not
  record Goes (f g : Front) : Type 0 where
    is_left : Bool
    is : g ≡ record { gives = f.gives; left = f.left ++ left_if is_left }

  after-more : (s : Sign) (xs : List Sign) → after_control_string (s ∷ (xs ++ graphic ∷ [])) ≡ after_control_string (s ∷ xs) ++ graphic ∷ []
  after-more (Character Escape c) xs = refl
  after-more s xs = refl

  record Strings (bell : Bool) (xs : List Sign) : Type 0 where
    is_left : Bool
    gives : flat_map size_functions (front_while (in_control_string bell) (xs ++ graphic ∷ [])) ≡ flat_map size_functions (front_while (in_control_string bell) xs)
    left : after_control_string (rest_while (in_control_string bell) (xs ++ graphic ∷ []))
        ≡ after_control_string (rest_while (in_control_string bell) xs) ++ left_if is_left

  strings : (bell : Bool) (xs : List Sign) → Strings bell xs
  strings bell [] = record { is_left = false; gives = refl; left = refl }
  strings bell (s ∷ xs) =
      let p = in_control_string bell in
      let more = strings bell xs in
      let P : Bool → Type 0 = λ t. (b : Bool)
      × (flat_map size_functions (cond t (s ∷ front_while p (xs ++ graphic ∷ [])) []) ≡ flat_map size_functions (cond t (s ∷ front_while p xs) []))
      × (after_control_string (cond t (rest_while p (xs ++ graphic ∷ [])) (s ∷ (xs ++ graphic ∷ [])))
      ≡ after_control_string (cond t (rest_while p xs) (s ∷ xs)) ++ left_if b) in
      let both : P (p s) = elim (p s) as P
      [ true ↦ (more.is_left, ap (λ l. size_functions s ++ l) more.gives, more.left) | false ↦ (true, refl, after-more s xs) ] in
      record { is_left = both.0; gives = both.1; left = both.2 }

  string-goes : (bell : Bool) (xs : List Sign) → Goes (control_string bell xs) (control_string bell (xs ++ graphic ∷ []))
  string-goes bell xs =
      let s = strings bell xs in
      record {
        is_left = s.is_left;
        is =
            ap (λ l. record { gives = l; left = after_control_string (rest_while (in_control_string bell) (xs ++ graphic ∷ [])) }) s.gives
            ∙ ap (λ l. record { gives = flat_map size_functions (front_while (in_control_string bell) xs); left = l }) s.left;
      }

  end_control-goes : (h : Option Header) (xs : List Sign)
      → end_control_sequence h (xs ++ graphic ∷ []) ≡ record { gives = (end_control_sequence h xs).gives; left = (end_control_sequence h xs).left ++ graphic ∷ [] }
  end_control-goes h [] = refl
  end_control-goes h (Character (Cancel b) c ∷ xs) = refl
  end_control-goes h (Character (Upper b) c ∷ xs) = refl
  end_control-goes h (Character (Lower b) c ∷ xs) = refl
  end_control-goes h (s ∷ xs) = refl

  control-goes : (xs : List Sign) → Goes (control_sequence xs) (control_sequence (xs ++ graphic ∷ []))
  control-goes xs = record {
    is_left = true;
    is =
        ap (λ l. behind (flat_map acts l) (end_control_sequence (header (body_of l)) (rest_while in_control_sequence (xs ++ graphic ∷ []))))
        (front_while-end graphic [] in_control_sequence refl xs)
        ∙ ap (λ f. behind (flat_map acts (front_while in_control_sequence xs)) f)
        (ap (end_control_sequence (header (body_of (front_while in_control_sequence xs)))) (rest_while-end graphic [] in_control_sequence refl xs)
        ∙ end_control-goes (header (body_of (front_while in_control_sequence xs))) (rest_while in_control_sequence xs));
  }

  c1-goes : (k : Kind) (xs : List Sign) → Goes (c1_control k xs) (c1_control k (xs ++ graphic ∷ []))
  c1-goes StringOpening xs = string-goes false xs
  c1-goes CommandOpening xs = string-goes true xs
  c1-goes SequenceIntroducer xs = control-goes xs
  c1-goes k xs = record { is_left = true; is = refl }

  upper-goes : (inter : Option (List ℕ)) (b : ℕ) (xs : List Sign) → Goes (upper_final inter b xs) (upper_final inter b (xs ++ graphic ∷ []))
  upper-goes (Some []) b xs = c1-goes (kind_of (b + 64)) xs
  upper-goes inter b xs = record { is_left = true; is = refl }

  end_escape-goes : (inter : Option (List ℕ)) (xs : List Sign) → Goes (end_escape_sequence inter xs) (end_escape_sequence inter (xs ++ graphic ∷ []))
  end_escape-goes inter [] = record { is_left = true; is = refl }
  end_escape-goes inter (Character (Upper b) c ∷ xs) = upper-goes inter b xs
  end_escape-goes inter (s ∷ xs) = record { is_left = true; is = refl }

  sequence-goes : (xs : List Sign) → Goes (escape_sequence xs) (escape_sequence (xs ++ graphic ∷ []))
  sequence-goes xs =
      let inside = front_while in_escape_sequence xs in
      let end = end_escape-goes (intermediates (body_of inside)) (rest_while in_escape_sequence xs) in
      record {
        is_left = end.is_left;
        is =
            ap (λ l. behind (flat_map acts l) (end_escape_sequence (intermediates (body_of l)) (rest_while in_escape_sequence (xs ++ graphic ∷ []))))
            (front_while-end graphic [] in_escape_sequence refl xs)
            ∙ ap (λ f. behind (flat_map acts inside) f)
            (ap (end_escape_sequence (intermediates (body_of inside))) (rest_while-end graphic [] in_escape_sequence refl xs) ∙ end.is);
      }

  front-goes : (s : Sign) (xs : List Sign) → Goes (front s xs) (front s (xs ++ graphic ∷ []))
  front-goes (Character Escape c) xs = sequence-goes xs
  front-goes (Character StringOpening c) xs = string-goes false xs
  front-goes (Character CommandOpening c) xs = string-goes true xs
  front-goes (Character SequenceIntroducer c) xs = control-goes xs
  front-goes s xs = record { is_left = true; is = refl }

  record Prints (xs : List Sign) : Type 0 where
    pub is_printed : Bool
    pub is : functions (xs ++ graphic ∷ []) ≡ functions xs ++ printed_if is_printed

  within : (n : ℕ) (xs : List Sign) → length xs ≤ n → Prints xs
  within n [] few = record {
    is_printed = true;
    is = functions-step graphic [] ∙ ap (λ l. Print code ∷ l) functions-nil ∙ sym (ap (λ l. l ++ Print code ∷ []) functions-nil);
  }
  within zero (s ∷ xs) few = absurd (omega (arith, few))
  within (suc n) (s ∷ xs) few =
      let less = front-le s xs in
      let goes = front-goes s xs in
      let left = (front s xs).left in
      let P : Bool → Type 0 = λ b. (t : Bool) × (functions (left ++ left_if b) ≡ functions left ++ printed_if t) in
      let more = within n left (omega (arith, few, less)) in
      let then_ : P goes.is_left = elim goes.is_left as P
      [ true ↦ (more.is_printed, more.is) | false ↦ (false, ap functions (append-nil left) ∙ sym (append-nil (functions left))) ] in
      record {
        is_printed = then_.0;
        is = functions-step s (xs ++ graphic ∷ [])
            ∙ ap (λ (f : Front). f.gives ++ functions f.left) goes.is
            ∙ ap (λ l. (front s xs).gives ++ l) then_.1
            ∙ sym (append_assoc (front s xs).gives (functions left) (printed_if then_.0))
            ∙ sym (ap (λ l. l ++ printed_if then_.0) (functions-step s xs));
      }

  -- it is printed, or nothing comes of it
  pub functions-graphic-after : (xs : List Sign) → (b : Bool) × (functions (xs ++ graphic ∷ []) ≡ functions xs ++ printed_if b)
  functions-graphic-after xs = let all = within (length xs) xs (omega arith) in (all.is_printed, all.is)
