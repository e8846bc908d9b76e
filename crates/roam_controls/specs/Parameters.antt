-- The parameters of a control sequence.
use Rattle.std.specs.Prelude.{ℕ, max, List, [], ◌∷◌, drop}

-- the first parameter; none is 0 (ECMA-48, section 5.4.2)
abbrev pub first : List ℕ → ℕ
first [] = 0
first (p ∷ params) = p

-- the second parameter; none is 0
abbrev pub second : List ℕ → ℕ
second params = first (drop 1 params)

-- a count or a coordinate: none and 0 are 1 (this project's profile, as VT220)
abbrev pub count : ℕ → ℕ
count p = max p 1
