-- Controls that act at once inside a sequence, and the front of signs that belongs to one (VT220 Programmer Reference; this project's
-- profile).
use Rattle.std.specs.Prelude.{Bool, cond, List, [], ◌∷◌}
use Rattle.roam_text.specs.declared.kinds.Kind.TheVariants.{C0Control, Bell}
use Rattle.roam_text.specs.declared.functions.Function.{Function}
use Rattle.roam_text.specs.declared.functions.Function.TheVariants.{C0, Size}
use Rattle.roam_text.specs.Log.{Sign, Character, Resize}

-- the functions of a front of the signs, and the signs behind that front (this project's profile)
pub record Front : Type 0 where
  pub gives : List Function
  pub left : List Sign

-- the longest front of signs that all pass
abbrev pub front_while : (Sign → Bool) → List Sign → List Sign
front_while p [] = []
front_while p (s ∷ rest) = cond (p s) (s ∷ front_while p rest) []

-- the signs behind that front
abbrev pub rest_while : (Sign → Bool) → List Sign → List Sign
rest_while p [] = []
rest_while p (s ∷ rest) = cond (p s) (rest_while p rest) (s ∷ rest)

-- a size acts wherever it falls (this project's profile)
abbrev pub size_functions : Sign → List Function
size_functions (Resize r c) = Size r c ∷ []
size_functions (Character k c) = []

-- inside a sequence sizes and C0 controls act at once (VT220 Programmer Reference, control characters in sequences)
abbrev pub acts : Sign → List Function
acts (Resize r c) = Size r c ∷ []
acts (Character (C0Control b) c) = C0 b ∷ []
acts (Character Bell c) = C0 7 ∷ []
acts (Character k c) = []
