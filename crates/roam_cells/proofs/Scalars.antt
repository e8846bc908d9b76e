-- Three code points that are Unicode scalar values.
use Rattle.std.proofs.Common.{◌≡◌, ℕ, ◌<◌, List, length, get_or, take, inl, inr, arith, subst, sym}
use Rattle.std.specs.Char.{IsScalar}
use Rattle.std.specs.Prelude.{All}
use Rattle.std.proofs.lemmas.Bool.{cases_lt}
use Rattle.std.proofs.lemmas.List.Elements.{All-take, All-from_get_or}

each_scalar : (xs : List ℕ) → IsScalar (get_or xs 0 0) → IsScalar (get_or xs 1 0) → IsScalar (get_or xs 2 0) → (k : ℕ) → k < 3 → IsScalar (get_or xs k 0)
each_scalar xs a b c k h =
    elim (cases_lt k 1) [
      | inl p ↦ let e : k ≡ 0 = omega arith in subst (λ (j : ℕ). IsScalar (get_or xs j 0)) (sym e) a
      | inr p ↦
          elim (cases_lt k 2) [
            | inl q ↦ let e : k ≡ 1 = omega arith in subst (λ (j : ℕ). IsScalar (get_or xs j 0)) (sym e) b
            | inr q ↦ let e : k ≡ 2 = omega arith in subst (λ (j : ℕ). IsScalar (get_or xs j 0)) (sym e) c
          ]
    ]

-- if each of three is one, each of the first n is
pub all_scalars : (n : ℕ) (xs : List ℕ) → length xs ≡ 3 → IsScalar (get_or xs 0 0) → IsScalar (get_or xs 1 0) → IsScalar (get_or xs 2 0) → All IsScalar (take n xs)
all_scalars n xs three a b c = All-take IsScalar n xs (All-from_get_or IsScalar xs 0 (λ k h. each_scalar xs a b c k (omega (arith, three, h))))
