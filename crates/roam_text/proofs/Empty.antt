-- A list whose length is tested to be 0 is empty.
use Rattle.std.proofs.Common.{◌≡◌, ◌<◌, ℕ, true, List, [], ◌∷◌, length, refl, arith}
use Rattle.std.specs.Prelude.{◌==◌}
use Rattle.std.proofs.lemmas.Bool.Decides.{nat_tests}

some-not : (n : ℕ) → true ≡ (n == 0) → 0 < n → ⊥
some-not n h l = grind (arith, nat_tests)

pub empty-is : (xs : List ℕ) → true ≡ (length xs == 0) → xs ≡ []
empty-is [] h = refl
empty-is (x ∷ xs) h = absurd (some-not (length (x ∷ xs)) h (omega arith))
