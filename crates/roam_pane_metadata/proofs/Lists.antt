-- Fronts of lists.
use Rattle.std.proofs.Common.{◌≡◌, ◌≤◌, ℕ, List, ◌++◌, length, take, arith}
use Rattle.std.proofs.lemmas.Grind.{common_steps}

pub take-full : (n : ℕ) (xs more : List ℕ) → length xs ≡ n → take n (xs ++ more) ≡ xs
take-full n xs more h = grind (arith, common_steps)

pub take-short : (n : ℕ) (xs : List ℕ) → length xs ≤ n → take n xs ≡ xs
take-short n xs h = grind (arith, common_steps)
