-- Numbers differ in no binary digit exactly if they are equal.
use Rattle.std.proofs.Common.{◌≡◌, ℕ, sym, ap, ◌∙◌, arith}
use Rattle.std.specs.Prelude.{bit_or, bit_xor}
use Rattle.std.specs.Int.Bits.{xor_assoc, xor_self, xor_zero_l, xor_zero_r}
use Rattle.std.proofs.lemmas.Nat.{le_or_l, le_or_r}

xor_same : (a b : ℕ) → bit_xor a b ≡ 0 → a ≡ b
xor_same a b e =
    sym (xor_zero_r a) ∙ ap (bit_xor a) (sym (xor_self b)) ∙ sym (xor_assoc a b b) ∙ ap (λ (z : ℕ). bit_xor z b) e ∙ xor_zero_l b

same_xor : (a b : ℕ) → a ≡ b → bit_xor a b ≡ 0
same_xor a b e = ap (λ (z : ℕ). bit_xor z b) e ∙ xor_self b

-- nothing is in either of two numbers of which nothing is gathered
pub none_of : (a b : ℕ) → bit_or a b ≡ 0 → (a ≡ 0) × (b ≡ 0)
none_of a b e =
    let left = le_or_l a b in
    let right = le_or_r a b in
    (omega (arith, e, left), omega (arith, e, right))

pub both_none : (a b : ℕ) → a ≡ 0 → b ≡ 0 → bit_or a b ≡ 0
both_none a b e f = ap (λ (z : ℕ). bit_or z b) e ∙ ap (bit_or 0) f

pub none_differs : (a b c d : ℕ) → bit_or (bit_xor a b) (bit_xor c d) ≡ 0 → (a ≡ b) × (c ≡ d)
none_differs a b c d e =
    let none = none_of (bit_xor a b) (bit_xor c d) e in
    (xor_same a b none.0, xor_same c d none.1)

pub no_difference : (a b c d : ℕ) → a ≡ b → c ≡ d → bit_or (bit_xor a b) (bit_xor c d) ≡ 0
no_difference a b c d e f = both_none (bit_xor a b) (bit_xor c d) (same_xor a b e) (same_xor c d f)
