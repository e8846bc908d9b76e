-- The acts of a text, a line each.
use Rattle.std.specs.Prelude.{ℕ, zero, suc, ◌==◌, List, [], ◌∷◌, if◌then◌else◌}
use Rattle.roam_acts.specs.declared.acts.Act.{Act}
use Rattle.roam_acts.specs.Acts.{IsAct}
use Rattle.roam_acts.specs.Lines.{Spells}

-- a byte in front of the first line
abbrev pub in_front : ℕ → List (List ℕ) → List (List ℕ)
in_front byte [] = (byte ∷ []) ∷ []
in_front byte (line ∷ lines) = (byte ∷ line) ∷ lines

-- the lines of a text: LF ends each, and the bytes behind the last LF are one more if there are any
abbrev pub lines_of : List ℕ → List (List ℕ)
lines_of [] = []
lines_of (byte ∷ bytes) = if byte == 0x0A then [] ∷ lines_of bytes else in_front byte (lines_of bytes)

-- a line is an act
abbrev pub IsLineOf : List ℕ → Act → Type 0
IsLineOf line act = IsAct act × Spells line act

-- each line is the act at its place
abbrev pub AreLinesOf : List (List ℕ) → List Act → Type 0
AreLinesOf [] [] = Unit {0}
AreLinesOf (line ∷ lines) (act ∷ acts) = IsLineOf line act × AreLinesOf lines acts
AreLinesOf [] (act ∷ acts) = ⊥
AreLinesOf (line ∷ lines) [] = ⊥

-- of these lines, from 0, each before this one is an act, and it is none
abbrev pub FailsAt : ℕ → List (List ℕ) → Type 0
FailsAt k [] = ⊥
FailsAt zero (line ∷ lines) = (act : Act) → IsLineOf line act → ⊥
FailsAt (suc k) (line ∷ lines) = ((act : Act) × IsLineOf line act) × FailsAt k lines
