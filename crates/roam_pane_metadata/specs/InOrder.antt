-- The results of control functions and of control strings of some bytes, in the order of the bytes.
use Rattle.std.specs.Prelude.{ℕ, List, [], ◌∷◌, ◌++◌, length, drop}

-- the elements that the longer of two lists has more
abbrev pub behind : {A : Type 0} → List A → List A → List A
behind before all = drop (length before) all

-- the additions of a byte behind some others: it ends a control function, or a control string, or neither
abbrev pub next_in_order : {A : Type 0} → (List ℕ → List A) → (List ℕ → List A) → List ℕ → ℕ → List A
next_in_order of_functions of_strings before b =
    behind (of_functions before) (of_functions (before ++ b ∷ [])) ++ behind (of_strings before) (of_strings (before ++ b ∷ []))

-- the additions of bytes behind some others, byte after byte
abbrev pub later_in_order : {A : Type 0} → (List ℕ → List A) → (List ℕ → List A) → List ℕ → List ℕ → List A
later_in_order of_functions of_strings before [] = []
later_in_order of_functions of_strings before (b ∷ more) =
    next_in_order of_functions of_strings before b ++ later_in_order of_functions of_strings (before ++ b ∷ []) more

-- those of some bytes
abbrev pub in_order : {A : Type 0} → (List ℕ → List A) → (List ℕ → List A) → List ℕ → List A
in_order of_functions of_strings bytes = later_in_order of_functions of_strings [] bytes
