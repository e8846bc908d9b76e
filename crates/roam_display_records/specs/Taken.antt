-- Which lines of a terminal are taken, with all their acts acknowledged (this project's profile).
use Rattle.std.specs.Prelude.{ℕ, ◌+◌, ◌-◌, ◌^◌, ◌≤◌, max, min, nat_lt, List, [], ◌∷◌, ◌++◌, length, Option, Some, None, if◌then◌else◌}
use Rattle.std.specs.List.{filter, fold}

-- how many lines with acts are kept apart at most
abbrev pub most_waiting : ℕ
most_waiting = 64

-- the number of lines taken; for each with acts that aren't acknowledged its number, from 1, and that of its last act; and the number of
-- lines reported
pub record TakenView : Type 0 where
  pub lines : ℕ
  pub waiting : List (ℕ × ℕ)
  pub told : ℕ

abbrev pub nothing_taken : TakenView
nothing_taken = record { lines = 0; waiting = []; told = 0 }

-- a line more, of 64 bits
abbrev pub next_line : ℕ → ℕ
next_line lines = min (2 ^ 64 - 1) (lines + 1)

-- a line waits for its last act behind the others
abbrev pub behind : ℕ → ℕ → List (ℕ × ℕ) → List (ℕ × ℕ)
behind line act waiting = waiting ++ (line, act) ∷ []

-- a line that waits for its last act waits for another one too
abbrev pub with_act : ℕ → ℕ × ℕ → ℕ × ℕ
with_act act entry = (entry.0, max entry.1 act)

-- if as many wait as are kept apart, the last one waits for this act too
abbrev pub joined : ℕ → List (ℕ × ℕ) → List (ℕ × ℕ)
joined act [] = []
joined act (entry ∷ []) = with_act act entry ∷ []
joined act (entry ∷ next ∷ others) = entry ∷ joined act (next ∷ others)

abbrev pub waits_for : ℕ → ℕ → List (ℕ × ℕ) → List (ℕ × ℕ)
waits_for line act waiting = if nat_lt (length waiting) most_waiting then behind line act waiting else joined act waiting

abbrev pub waiting_after : Option ℕ → ℕ → List (ℕ × ℕ) → List (ℕ × ℕ)
waiting_after None line waiting = waiting
waiting_after (Some act) line waiting = waits_for line act waiting

-- a line was taken, with acts or without
abbrev pub took : Option ℕ → TakenView → TakenView
took last t = record t { lines = next_line t.lines; waiting = waiting_after last (next_line t.lines) t.waiting }

-- ---- acknowledged acts

-- those whose acts aren't all among the first so many
abbrev pub still_waiting : ℕ → List (ℕ × ℕ) → List (ℕ × ℕ)
still_waiting acknowledged waiting = filter (λ entry. nat_lt acknowledged entry.1) waiting

-- how many of the first lines wait for nothing
abbrev pub done : ℕ → List (ℕ × ℕ) → ℕ
done lines [] = lines
done lines (entry ∷ others) = entry.0 - 1

-- so many of the first lines are taken and all their acts acknowledged, if so many acts are
abbrev pub done_after : ℕ → TakenView → ℕ
done_after acknowledged t = done t.lines (still_waiting acknowledged t.waiting)

-- that is reported if it rose
abbrev pub risen : ℕ → ℕ → Option ℕ
risen told now = if nat_lt told now then Some now else None

abbrev pub acknowledged_of : ℕ → TakenView → TakenView
acknowledged_of acknowledged t =
    record { lines = t.lines; waiting = still_waiting acknowledged t.waiting; told = max t.told (done_after acknowledged t) }

-- ---- the law

-- of the lines that were taken, each with its last act or none, the first ones whose acts are all among the first so many
abbrev pub first_done : ℕ → List (Option ℕ) → ℕ
first_done acknowledged [] = 0
first_done acknowledged (None ∷ lines) = 1 + first_done acknowledged lines
first_done acknowledged (Some act ∷ lines) = if nat_lt acknowledged act then 0 else 1 + first_done acknowledged lines

-- a step: a line was taken, or so many acts are acknowledged
pub data TakenStep : Type 0 where
  Line : (last : Option ℕ) → TakenStep
  Acknowledged : (acts : ℕ) → TakenStep

abbrev pub taken_step : TakenView → TakenStep → TakenView
taken_step t (Line last) = took last t
taken_step t (Acknowledged acts) = acknowledged_of acts t

-- the lines among steps
abbrev pub lines_in : List TakenStep → List (Option ℕ)
lines_in [] = []
lines_in (Line last ∷ steps) = last ∷ lines_in steps
lines_in (Acknowledged acts ∷ steps) = lines_in steps

-- no more than so many acts were acknowledged
abbrev pub AreBelow : ℕ → List TakenStep → Type 0
AreBelow most [] = Unit {0}
AreBelow most (Line last ∷ steps) = AreBelow most steps
AreBelow most (Acknowledged acts ∷ steps) = (acts ≤ most) × AreBelow most steps

-- Whatever lines were taken and acts acknowledged, no more at any time than are at last: no more lines are done than are.
abbrev pub NeverTooEarly : Type 0
NeverTooEarly =
    (steps : List TakenStep) (acknowledged : ℕ) → AreBelow acknowledged steps
    → done_after acknowledged (fold taken_step nothing_taken steps) ≤ first_done acknowledged (lines_in steps)
