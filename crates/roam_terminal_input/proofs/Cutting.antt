-- Where a text is cut into lines.
use Rattle.std.proofs.Common.{◌≡◌, ℕ, suc, ◌+◌, ◌<◌, Bool, true, false, eqb, ltb, List, [], ◌∷◌, length, take, drop, Some, None, refl, ap, ◌∙◌, arith}
use Rattle.std.proofs.lemmas.Bool.{ltb-true}
use Rattle.std.specs.List.{position, prefix_len}
use Rattle.std.specs.Prelude.{not, if◌then◌else◌}
use Rattle.roam_terminal_input.specs.Keys.{lines_of}

-- a byte that ends no line
abbrev pub is_inner : ℕ → Bool
is_inner b = not (eqb b 10)

abbrev CutAt : List ℕ → Type 0
CutAt text = prefix_len is_inner text < length text
    → lines_of text ≡ take (prefix_len is_inner text) text ∷ lines_of (drop (prefix_len is_inner text + 1) text)

shorter : (t : Bool) (p n : ℕ) → t ≡ false → (if not t then 1 + p else 0) < suc n → p < n
shorter true p n e lt = absurd cc
shorter false p n e lt = omega (arith, lt)

cut_front : (b : ℕ) (bs : List ℕ) → CutAt bs → CutAt (b ∷ bs)
cut_front b bs more lt = by (eqb b 10) refl
  where
    by : (t : Bool) → eqb b 10 ≡ t
        → lines_of (b ∷ bs) ≡ take (prefix_len is_inner (b ∷ bs)) (b ∷ bs) ∷ lines_of (drop (prefix_len is_inner (b ∷ bs) + 1) (b ∷ bs))
    by true e = rw e refl
    by false e =
        let p = prefix_len is_inner bs in
        let one : 1 + p ≡ suc p = omega arith in
        let two : 1 + p + 1 ≡ suc (p + 1) = omega arith in
        rw (e, more (shorter (eqb b 10) p (length bs) e lt), two, one) refl

cut_at : (text : List ℕ) → CutAt text
cut_at [] = λ lt. absurd (omega (arith, lt))
cut_at (b ∷ bs) = cut_front b bs (cut_at bs)

abbrev IsWhole : List ℕ → Type 0
IsWhole text = 0 < length text → (prefix_len is_inner text < length text → ⊥) → lines_of text ≡ text ∷ []

whole_front : (b : ℕ) (bs : List ℕ) → IsWhole bs → IsWhole (b ∷ bs)
whole_front b bs more some never = by (eqb b 10) refl bs refl
  where
    by : (t : Bool) → eqb b 10 ≡ t → (all : List ℕ) → bs ≡ all → lines_of (b ∷ bs) ≡ (b ∷ bs) ∷ []
    by true e all is = absurd (never (rw e (omega arith)))
    by false e [] is = rw (e, is) refl
    by false e (c ∷ cs) is =
        let none : prefix_len is_inner bs < length bs → ⊥ = λ lt. never (rw e (omega (arith, lt))) in
        let one : lines_of bs ≡ bs ∷ [] = more (rw is (omega arith)) none in
        rw (e, one) refl

whole : (text : List ℕ) → IsWhole text
whole [] = λ some never. absurd (omega (arith, some))
whole (b ∷ bs) = whole_front b bs (whole bs)

-- the first line ends at the first LF
pub first_cut : (text : List ℕ) (p : ℕ) → position (λ (b : ℕ). eqb b 10) text ≡ Some p → lines_of text ≡ take p text ∷ lines_of (drop (p + 1) text)
first_cut text p e = by (ltb (prefix_len is_inner text) (length text)) refl e
  where
    by : (t : Bool) → ltb (prefix_len is_inner text) (length text) ≡ t
        → (if t then Some (prefix_len is_inner text) else None) ≡ Some p → lines_of text ≡ take p text ∷ lines_of (drop (p + 1) text)
    by true is some =
        let same : prefix_len is_inner text ≡ p = cc in
        cut_at text (ltb-true _ _ is) ∙ ap (λ (n : ℕ). take n text ∷ lines_of (drop (n + 1) text)) same
    by false is some = absurd cc

-- a text without LF is one line, if it isn't empty
pub no_cut : (text : List ℕ) → 0 < length text → position (λ (b : ℕ). eqb b 10) text ≡ None → lines_of text ≡ text ∷ []
no_cut [] some e = absurd (omega (arith, some))
no_cut (b ∷ bs) some e = by (ltb (prefix_len is_inner (b ∷ bs)) (length (b ∷ bs))) refl e
  where
    by : (t : Bool) → ltb (prefix_len is_inner (b ∷ bs)) (length (b ∷ bs)) ≡ t
        → (if t then Some (prefix_len is_inner (b ∷ bs)) else None) ≡ None → lines_of (b ∷ bs) ≡ (b ∷ bs) ∷ []
    by true is none = absurd cc
    by false is none = whole (b ∷ bs) some (λ lt. grind (arith, is, lt))
