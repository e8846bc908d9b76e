-- The value of a number, and the normalizer's output for its digits.
use Rattle.std.proofs.Common.{◌≡◌, ◌⊎◌, inl, inr, ◌≤◌, ◌<◌, ◌+◌, ◌-◌, ◌*◌, ℕ, suc, Bool, true, false, cond, List, [], ◌∷◌, length, map, refl, sym, ap, ◌∙◌, arith}
use Rattle.std.specs.Prelude.{◌==◌, ◌||◌, ◌&&◌, if◌then◌else◌, min}
use Rattle.std.proofs.lemmas.Bool.Decides.{nat_tests}
use Rattle.roam_text.specs.ControlSequences.{capped_value, number_from}
use Rattle.roam_normalize.specs.declared.renditions.Field.{Field}
use Rattle.roam_normalize.specs.declared.renditions.Field.TheVariants.{Plain, Colour, LineColour, NoLineColour}
use Rattle.roam_normalize.specs.Renditions.{number_kind, number_together, two_kind, whole_kind, together, without_zeros}
use Rattle.roam_normalize_laws.proofs.Fields.{Digits, IsDigit}

abbrev pub values : List ℕ → List ℕ
values field = map (λ b. b - 0x30) field

abbrev pub value : List ℕ → ℕ
value field = capped_value (values field)

-- the field that a parameter begins, by its value
abbrev pub kind_by : ℕ → Field
kind_by v = if (v == 38 || v == 48) then Colour else if v == 58 then LineColour else if v == 59 then NoLineColour else Plain

abbrev pub together_by : ℕ → ℕ → ℕ
together_by otherwise v = if v == 5 then 3 else if v == 2 then 5 else otherwise

same-bool : (x y : Bool) → (x ≡ true → y ≡ true) → (y ≡ true → x ≡ true) → x ≡ y
same-bool true true h k = refl
same-bool true false h k = sym (h refl)
same-bool false true h k = k refl
same-bool false false h k = refl

pub grows : (ds : List ℕ) (n : ℕ) → n ≤ number_from n ds
grows [] n = omega arith
grows (d ∷ ds) n = let more = grows ds (10 * n + d) in omega (arith, more)

plain-by : (v : ℕ) → (v < 38) ⊎ (60 ≤ v) → kind_by v ≡ Plain
plain-by v (inl low) = grind (arith, nat_tests, low)
plain-by v (inr high) = grind (arith, nat_tests, high)

other-together : (otherwise v : ℕ) → (10 ≤ v) ⊎ (v ≡ 0) → together_by otherwise v ≡ otherwise
other-together otherwise v (inl high) = grind (arith, nat_tests, high)
other-together otherwise v (inr none) = ap (together_by otherwise) none

two-by : (a b : ℕ) → IsDigit a → IsDigit b → two_kind a b ≡ kind_by (min 9999 (10 * (10 * 0 + (a - 0x30)) + (b - 0x30)))
two-by a b p q =
    let a-low = p.low in
    let a-high = p.high in
    let b-low = q.low in
    let b-high = q.high in
    let v = min 9999 (10 * (10 * 0 + (a - 0x30)) + (b - 0x30)) in
    ap (λ t. cond t Colour (cond (a == 0x35 && b == 0x38) LineColour (cond (a == 0x35 && b == 0x39) NoLineColour Plain)))
    (same-bool ((a == 0x33 || a == 0x34) && b == 0x38) (v == 38 || v == 48) (λ h. grind (arith, nat_tests, a-low, a-high, b-low, b-high, h))
    (λ h. grind (arith, nat_tests, a-low, a-high, b-low, b-high, h)))
    ∙ ap (λ t. cond (v == 38 || v == 48) Colour (cond t LineColour (cond (a == 0x35 && b == 0x39) NoLineColour Plain)))
    (same-bool (a == 0x35 && b == 0x38) (v == 58) (λ h. grind (arith, nat_tests, a-low, a-high, b-low, b-high, h))
    (λ h. grind (arith, nat_tests, a-low, a-high, b-low, b-high, h)))
    ∙ ap (λ t. cond (v == 38 || v == 48) Colour (cond (v == 58) LineColour (cond t NoLineColour Plain)))
    (same-bool (a == 0x35 && b == 0x39) (v == 59) (λ h. grind (arith, nat_tests, a-low, a-high, b-low, b-high, h))
    (λ h. grind (arith, nat_tests, a-low, a-high, b-low, b-high, h)))

-- a number that begins with another digit than 0
nonzero-kind : (b : ℕ) (rest : List ℕ) → IsDigit b → Digits rest → 0x30 < b → number_kind (b ∷ rest) ≡ kind_by (value (b ∷ rest))
nonzero-kind b [] d h some = let high = d.high in sym (plain-by (value (b ∷ [])) (inl (omega (arith, high))))
nonzero-kind b (c ∷ []) d h some = two-by b c d h.0
nonzero-kind b (c ∷ e ∷ rest) d h some =
    let long = grows (values rest) (10 * (10 * (10 * 0 + (b - 0x30)) + (c - 0x30)) + (e - 0x30)) in
    sym (plain-by (value (b ∷ c ∷ e ∷ rest)) (inr (omega (arith, long, some))))

nonzero-together : (otherwise b : ℕ) (rest : List ℕ) → IsDigit b → Digits rest → 0x30 < b
    → number_together otherwise (b ∷ rest) ≡ together_by otherwise (value (b ∷ rest))
nonzero-together otherwise b [] d h some =
    let high = d.high in
    let low = d.low in
    let v = value (b ∷ []) in
    ap (λ t. cond t 3 (cond (b == 0x32) 5 otherwise))
    (same-bool (b == 0x35) (v == 5) (λ k. grind (arith, nat_tests, low, high, k)) (λ k. grind (arith, nat_tests, low, high, k)))
    ∙ ap (λ t. cond (v == 5) 3 (cond t 5 otherwise))
    (same-bool (b == 0x32) (v == 2) (λ k. grind (arith, nat_tests, low, high, k)) (λ k. grind (arith, nat_tests, low, high, k)))
nonzero-together otherwise b (c ∷ rest) d h some =
    let long = grows (values rest) (10 * (10 * 0 + (b - 0x30)) + (c - 0x30)) in
    sym (other-together otherwise (value (b ∷ c ∷ rest)) (inl (omega (arith, long, some))))

eq-yes : (a b : ℕ) → (a == b) ≡ true → a ≡ b
eq-yes a b h = grind (arith, nat_tests)

eq-no : (b : ℕ) → 0x30 ≤ b → (b == 0x30) ≡ false → 0x30 < b
eq-no b low h = grind (arith, nat_tests)

zero-leads : (b : ℕ) (rest : List ℕ) → (b == 0x30) ≡ true → value (b ∷ rest) ≡ value rest
zero-leads b rest h = ap (λ c. value (c ∷ rest)) (eq-yes b 0x30 h)

pub kind-is : (field : List ℕ) → Digits field → whole_kind field ≡ kind_by (value field)
kind-is [] h = refl
kind-is (b ∷ rest) (d, h) = by (b == 0x30) refl (kind-is rest h)
  where
    by : (t : Bool) → (b == 0x30) ≡ t → whole_kind rest ≡ kind_by (value rest)
        → number_kind (cond t (without_zeros rest) (b ∷ rest)) ≡ kind_by (value (b ∷ rest))
    by true is behind = behind ∙ ap kind_by (sym (zero-leads b rest is))
    by false is behind = nonzero-kind b rest d h (eq-no b d.low is)

pub together-is : (otherwise : ℕ) (field : List ℕ) → Digits field → together otherwise field ≡ together_by otherwise (value field)
together-is otherwise [] h = refl
together-is otherwise (b ∷ rest) (d, h) = by (b == 0x30) refl (together-is otherwise rest h)
  where
    by : (t : Bool) → (b == 0x30) ≡ t → together otherwise rest ≡ together_by otherwise (value rest)
        → number_together otherwise (cond t (without_zeros rest) (b ∷ rest)) ≡ together_by otherwise (value (b ∷ rest))
    by true is behind = behind ∙ ap (together_by otherwise) (sym (zero-leads b rest is))
    by false is behind = nonzero-together otherwise b rest d h (eq-no b d.low is)

pub zero-is : (field : List ℕ) → Digits field → (length (without_zeros field) == 0) ≡ (value field == 0)
zero-is [] h = refl
zero-is (b ∷ rest) (d, h) = by (b == 0x30) refl (zero-is rest h)
  where
    by : (t : Bool) → (b == 0x30) ≡ t → (length (without_zeros rest) == 0) ≡ (value rest == 0)
        → (length (cond t (without_zeros rest) (b ∷ rest)) == 0) ≡ (value (b ∷ rest) == 0)
    by true is behind = behind ∙ ap (λ v. v == 0) (sym (zero-leads b rest is))
    by false is behind =
        let some = eq-no b d.low is in
        let long = grows (values rest) (10 * 0 + (b - 0x30)) in
        sym (not-zero (value (b ∷ rest)) (omega (arith, some, long)))
      where
        not-zero : (v : ℕ) → 0 < v → (v == 0) ≡ (suc (length rest) == 0)
        not-zero v more = grind (arith, nat_tests, more)
