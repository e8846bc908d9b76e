-- Fields between semicolons, as the bytes have them and as the reader of control sequences has them.
use Rattle.std.proofs.Common.{◌≡◌, ◌⊎◌, ◌≤◌, ◌<◌, ◌+◌, ◌-◌, ℕ, zero, suc, Bool, true, false, cond, nat_lt, List, [], ◌∷◌, length, map, take, drop, refl, sym, ap, ◌∙◌, arith, subst, inl, inr}
use Rattle.std.specs.Prelude.{⊤, ◌==◌, ◌||◌, ◌&&◌, nat_le}
use Rattle.std.proofs.lemmas.Bool.Decides.{nat_tests}
use Rattle.roam_text.specs.declared.kinds.Kind.{Kind}
use Rattle.roam_text.specs.declared.kinds.Kind.TheVariants.{Digit}
use Rattle.roam_text.specs.Kinds.{kind_of}
use Rattle.roam_text.specs.ControlSequences.{digits_of_parameters, with_digit}
use Rattle.roam_normalize.specs.Meanings.{are_numbers}
use Rattle.roam_normalize.specs.Renditions.{count_of, fields_length, first_field}

-- the digits of each field
abbrev pub digits : List ℕ → List (List ℕ)
digits body = digits_of_parameters (map kind_of body)

-- a digit, as the reader knows it
pub record IsDigit (b : ℕ) : Type 0 where
  pub kind : kind_of b ≡ Digit b
  pub low : 0x30 ≤ b
  pub high : b < 0x3A

-- digits and semicolons
abbrev pub Numbers : List ℕ → Type 0
Numbers [] = ⊤
Numbers (b ∷ rest) = (IsDigit b ⊎ (b ≡ 0x3B)) × Numbers rest

abbrev pub Digits : List ℕ → Type 0
Digits [] = ⊤
Digits (b ∷ rest) = IsDigit b × Digits rest

digit-low : (b : ℕ) → (nat_le 0x30 b && nat_lt b 0x3A) ≡ true → 0x30 ≤ b
digit-low b h = grind (arith, nat_tests)

digit-high : (b : ℕ) → (nat_le 0x30 b && nat_lt b 0x3A) ≡ true → b < 0x3A
digit-high b h = grind (arith, nat_tests)

lt-yes : (a b : ℕ) → a < b → nat_lt a b ≡ true
lt-yes a b h = grind (arith, nat_tests)

lt-no : (a b : ℕ) → b ≤ a → nat_lt a b ≡ false
lt-no a b h = grind (arith, nat_tests)

eq-yes : (a b : ℕ) → (a == b) ≡ true → a ≡ b
eq-yes a b h = grind (arith, nat_tests)

low-kind : (b : ℕ) (x y z w : Bool) → x ≡ false → y ≡ true → z ≡ false → w ≡ true → (k l m n : Kind)
    → cond x k (cond y (cond z l (cond w m n)) n) ≡ m
low-kind b true y z w p q r s k l m n = cc
low-kind b false false z w p q r s k l m n = cc
low-kind b false true true w p q r s k l m n = cc
low-kind b false true false false p q r s k l m n = cc
low-kind b false true false true p q r s k l m n = refl

digit-kind : (b : ℕ) → 0x30 ≤ b → b < 0x3A → kind_of b ≡ Digit b
digit-kind b low high = grind (arith, nat_tests)

pub is-digit : (b : ℕ) → (nat_le 0x30 b && nat_lt b 0x3A) ≡ true → IsDigit b
is-digit b h = record {
  kind = digit-kind b (digit-low b h) (digit-high b h);
  low = digit-low b h;
  high = digit-high b h;
}

both : (x y : Bool) → (x && y) ≡ true → (x ≡ true) × (y ≡ true)
both true true h = (refl, refl)
both true false h = cc
both false y h = cc

either : (x y : Bool) → (x || y) ≡ true → (x ≡ true) ⊎ (y ≡ true)
either true y h = inl refl
either false true h = inr refl
either false false h = cc

number-by : (b : ℕ) → ((nat_le 0x30 b && nat_lt b 0x3A) ≡ true) ⊎ ((b == 0x3B) ≡ true) → IsDigit b ⊎ (b ≡ 0x3B)
number-by b (inl d) = inl (is-digit b d)
number-by b (inr s) = inr (eq-yes b 0x3B s)

pub numbers : (body : List ℕ) → are_numbers body ≡ true → Numbers body
numbers [] h = tt
numbers (b ∷ rest) h =
    let parts = both ((nat_le 0x30 b && nat_lt b 0x3A) || b == 0x3B) (are_numbers rest) h in
    (number-by b (either (nat_le 0x30 b && nat_lt b 0x3A) (b == 0x3B) parts.0), numbers rest parts.1)

pub numbers-left : (n : ℕ) (body : List ℕ) → Numbers body → Numbers (drop n body)
numbers-left zero body h = h
numbers-left (suc n) [] h = tt
numbers-left (suc n) (b ∷ rest) h = numbers-left n rest h.1

-- ---- one byte

digit-no-separator : (b : ℕ) → IsDigit b → (b == 0x3B) ≡ false
digit-no-separator b d =
    let high = d.high in grind (arith, nat_tests, high)

digit-no-colon : (b : ℕ) → IsDigit b → (b == 0x3A) ≡ false
digit-no-colon b d =
    let high = d.high in grind (arith, nat_tests, high)

digits-digit : (b : ℕ) (rest : List ℕ) → IsDigit b → digits (b ∷ rest) ≡ with_digit (b - 0x30) (digits rest)
digits-digit b rest d = ap (λ k. digits_of_parameters (k ∷ map kind_of rest)) d.kind

length-digit : (n b : ℕ) (rest : List ℕ) → IsDigit b → fields_length 0x3B (suc n) (b ∷ rest) ≡ suc (fields_length 0x3B (suc n) rest)
length-digit n b rest d =
    ap (λ t. cond t (cond (n == 0) 0 (suc (fields_length 0x3B n rest))) (suc (fields_length 0x3B (suc n) rest))) (digit-no-separator b d)

abbrev no_fields : List (List ℕ)
no_fields = []

take-none : (n : ℕ) → take n no_fields ≡ no_fields
take-none zero = refl
take-none (suc n) = refl

drop-none : (n : ℕ) → drop n no_fields ≡ no_fields
drop-none zero = refl
drop-none (suc n) = refl

not-zero : (n : ℕ) → (suc n == 0) ≡ false
not-zero n = grind (arith, nat_tests)

length-separator : (n : ℕ) (rest : List ℕ) → fields_length 0x3B (suc (suc n)) (0x3B ∷ rest) ≡ suc (fields_length 0x3B (suc n) rest)
length-separator n rest = ap (λ t. cond t 0 (suc (fields_length 0x3B (suc n) rest))) (not-zero n)

suc-behind : (k : ℕ) → suc k + 1 ≡ suc (k + 1)
suc-behind k = omega arith

drop-one-more : (k b : ℕ) (rest : List ℕ) → drop (suc k + 1) (b ∷ rest) ≡ drop (k + 1) rest
drop-one-more k b rest = ap (λ m. drop m (b ∷ rest)) (suc-behind k)

take-with : (d n : ℕ) (ds : List (List ℕ)) → with_digit d (take (suc n) ds) ≡ take (suc n) (with_digit d ds)
take-with d n [] = ap (λ l. (d ∷ []) ∷ l) (sym (take-none n))
take-with d n (f ∷ more) = refl

drop-with : (d n : ℕ) (ds : List (List ℕ)) → drop (suc n) (with_digit d ds) ≡ drop (suc n) ds
drop-with d n [] = drop-none n
drop-with d n (f ∷ more) = refl

length-with : (d : ℕ) (ds : List (List ℕ)) → 0 < length ds → length (with_digit d ds) ≡ length ds
length-with d [] some = absurd (omega (arith, some))
length-with d (f ∷ more) some = refl

pub digits-some : (body : List ℕ) → Numbers body → 0 < length (digits body)
digits-some [] h = omega arith
digits-some (b ∷ rest) (inl d, h) =
    let more = digits-some rest h in
    let same : length (digits (b ∷ rest)) ≡ length (digits rest) =
    ap length (digits-digit b rest d) ∙ length-with (b - 0x30) (digits rest) more in
    omega (arith, same, more)
digits-some (b ∷ rest) (inr s, h) = subst (λ c. 0 < length (digits (c ∷ rest))) (sym s) (omega arith)

-- ---- the first fields

pub take-fields : (n : ℕ) (body : List ℕ) → Numbers body → digits (take (fields_length 0x3B (suc n) body) body) ≡ take (suc n) (digits body)
take-fields n [] h = ap (λ l. [] ∷ l) (sym (take-none n))
take-fields n (b ∷ rest) (inl d, h) =
    ap (λ k. digits (take k (b ∷ rest))) (length-digit n b rest d)
    ∙ digits-digit b (take (fields_length 0x3B (suc n) rest) rest) d
    ∙ ap (with_digit (b - 0x30)) (take-fields n rest h)
    ∙ take-with (b - 0x30) n (digits rest)
    ∙ ap (take (suc n)) (sym (digits-digit b rest d))
take-fields zero (b ∷ rest) (inr s, h) = subst (λ c. digits (take (fields_length 0x3B 1 (c ∷ rest)) (c ∷ rest)) ≡ take 1 (digits (c ∷ rest))) (sym s) refl
take-fields (suc n) (b ∷ rest) (inr s, h) =
    subst (λ c. digits (take (fields_length 0x3B (suc (suc n)) (c ∷ rest)) (c ∷ rest)) ≡ take (suc (suc n)) (digits (c ∷ rest))) (sym s)
    (ap (λ k. digits (take k (0x3B ∷ rest))) (length-separator n rest) ∙ ap (λ l. [] ∷ l) (take-fields n rest h))

pub drop-fields : (n : ℕ) (body : List ℕ) → Numbers body → fields_length 0x3B (suc n) body < length body
    → digits (drop (fields_length 0x3B (suc n) body + 1) body) ≡ drop (suc n) (digits body)
drop-fields n [] h less = absurd (omega (arith, less))
drop-fields n (b ∷ rest) (inl d, h) less =
    let long = length-digit n b rest d in
    ap (λ k. digits (drop (k + 1) (b ∷ rest))) long
    ∙ ap digits (drop-one-more (fields_length 0x3B (suc n) rest) b rest)
    ∙ drop-fields n rest h (omega (arith, less, long))
    ∙ sym (drop-with (b - 0x30) n (digits rest))
    ∙ ap (drop (suc n)) (sym (digits-digit b rest d))
drop-fields zero (b ∷ rest) (inr s, h) less =
    subst (λ c. digits (drop (fields_length 0x3B 1 (c ∷ rest) + 1) (c ∷ rest)) ≡ drop 1 (digits (c ∷ rest))) (sym s) refl
drop-fields (suc n) (b ∷ rest) (inr s, h) less =
    let long : fields_length 0x3B (suc (suc n)) (b ∷ rest) ≡ suc (fields_length 0x3B (suc n) rest) =
    ap (λ c. fields_length 0x3B (suc (suc n)) (c ∷ rest)) s ∙ length-separator n rest in
    subst (λ c. digits (drop (fields_length 0x3B (suc (suc n)) (c ∷ rest) + 1) (c ∷ rest)) ≡ drop (suc (suc n)) (digits (c ∷ rest))) (sym s)
    (ap (λ k. digits (drop (k + 1) (0x3B ∷ rest))) (length-separator n rest)
    ∙ ap digits (drop-one-more (fields_length 0x3B (suc n) rest) 0x3B rest) ∙ drop-fields n rest h (omega (arith, less, long)))

-- there are no more fields if nothing is behind these
pub end-fields : (n : ℕ) (body : List ℕ) → Numbers body → length body ≤ fields_length 0x3B (suc n) body → length (digits body) ≤ suc n
end-fields n [] h whole = omega arith
end-fields n (b ∷ rest) (inl d, h) whole =
    let long = length-digit n b rest d in
    let few = end-fields n rest h (omega (arith, whole, long)) in
    let same : length (digits (b ∷ rest)) ≡ length (digits rest) =
    ap length (digits-digit b rest d) ∙ length-with (b - 0x30) (digits rest) (digits-some rest h) in
    omega (arith, few, same)
end-fields zero (b ∷ rest) (inr s, h) whole =
    let none : fields_length 0x3B 1 (b ∷ rest) ≡ 0 = ap (λ c. fields_length 0x3B 1 (c ∷ rest)) s in
    absurd (omega (arith, whole, none))
end-fields (suc n) (b ∷ rest) (inr s, h) whole =
    let long : fields_length 0x3B (suc (suc n)) (b ∷ rest) ≡ suc (fields_length 0x3B (suc n) rest) =
    ap (λ c. fields_length 0x3B (suc (suc n)) (c ∷ rest)) s ∙ length-separator n rest in
    let few = end-fields n rest h (omega (arith, whole, long)) in
    let same : length (digits (b ∷ rest)) ≡ suc (length (digits rest)) = ap (λ c. length (digits (c ∷ rest))) s in
    omega (arith, few, same)

-- more fields than bytes are all of them
pub all-fields : (n : ℕ) (body : List ℕ) → Numbers body → length body ≤ n → fields_length 0x3B (suc n) body ≡ length body
all-fields n [] h few = refl
all-fields zero (b ∷ rest) h few = absurd (omega (arith, few))
all-fields (suc n) (b ∷ rest) (inl d, h) few =
    length-digit (suc n) b rest d ∙ ap suc (all-fields (suc n) rest h (omega (arith, few)))
all-fields (suc n) (b ∷ rest) (inr s, h) few =
    ap (λ c. fields_length 0x3B (suc (suc n)) (c ∷ rest)) s ∙ length-separator n rest ∙ ap suc (all-fields n rest h (omega (arith, few)))

-- ---- the first field alone

pub first-digits : (body : List ℕ) → Numbers body → Digits (first_field 0x3B body)
first-digits [] h = tt
first-digits (b ∷ rest) (inl d, h) = subst (λ k. Digits (take k (b ∷ rest))) (sym (length-digit 0 b rest d)) (d, first-digits rest h)
first-digits (b ∷ rest) (inr s, h) = subst (λ c. Digits (first_field 0x3B (c ∷ rest))) (sym s) tt

pub first-is : (body : List ℕ) → Numbers body → take 1 (digits body) ≡ map (λ b. b - 0x30) (first_field 0x3B body) ∷ []
first-is [] h = refl
first-is (b ∷ rest) (inl d, h) =
    ap (take 1) (digits-digit b rest d) ∙ sym (take-with (b - 0x30) 0 (digits rest)) ∙ ap (with_digit (b - 0x30)) (first-is rest h)
    ∙ ap (λ k. map (λ c. c - 0x30) (take k (b ∷ rest)) ∷ []) (sym (length-digit 0 b rest d))
first-is (b ∷ rest) (inr s, h) =
    subst (λ c. take 1 (digits (c ∷ rest)) ≡ map (λ b. b - 0x30) (first_field 0x3B (c ∷ rest)) ∷ []) (sym s) refl

pub no-colons : (field : List ℕ) → Digits field → count_of 0x3A field ≡ 0
no-colons [] h = refl
no-colons (b ∷ rest) (d, h) = ap (λ t. cond t (suc (count_of 0x3A rest)) (count_of 0x3A rest)) (digit-no-colon b d) ∙ no-colons rest h
