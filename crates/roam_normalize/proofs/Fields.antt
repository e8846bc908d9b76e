-- No fields take no bytes.
use Rattle.std.proofs.Common.{◌≡◌, ◌≤◌, ℕ, zero, suc, List, [], ◌∷◌, refl, arith}
use Rattle.roam_normalize.specs.Renditions.{fields_length}

pub no-fields : (separator left : ℕ) (bytes : List ℕ) → left ≤ 0 → fields_length separator left bytes ≡ 0
no-fields separator zero [] few = refl
no-fields separator zero (b ∷ rest) few = refl
no-fields separator (suc left) bytes few = absurd (omega (arith, few))
