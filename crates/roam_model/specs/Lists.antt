-- Words on lists, and on values by their number.
use Rattle.std.specs.Prelude.{◌≡◌, ◌⊎◌, ℕ, ◌==◌, List, [], ◌∷◌, ◌++◌, if◌then◌else◌}

-- x is in the list
abbrev pub IsIn : {X : Type 0} → X → List X → Type 0
IsIn x [] = ⊥
IsIn x (y ∷ ys) = (y ≡ x) ⊎ IsIn x ys

-- the list begins with these
abbrev pub IsFront : {X : Type 0} → List X → List X → Type 0
IsFront {X} xs all = (rest : List X) × (all ≡ xs ++ rest)

-- the values with another one under this number
abbrev pub with_value : {X : Type 0} → (ℕ → X) → ℕ → X → ℕ → X
with_value values n x m = if m == n then x else values m
