-- The states of a receiver, and the effect of an instruction (this project's profile of Mosh's State Synchronization Protocol).
use Rattle.std.specs.Prelude.{◌≡◌, ℕ, ◌<◌, List, [], ◌∷◌, ◌++◌, length, filter, Option, Some, None, is_none, nat_le, ◌==◌, if◌then◌else◌}
use Rattle.roam_sync.specs.Limits.{most_held}
use Rattle.roam_sync.specs.declared.receivers.Pair.{Pair}
use Rattle.roam_sync.specs.declared.receivers.Step.{Step}
use Rattle.roam_sync.specs.declared.receivers.Step.TheVariants as step

-- the newest pair, and those before it
pub record Receiving (S : Type 0) : Type 0 where
  pub earlier : List (Pair S)
  pub newest : Pair S

-- all pairs, numbers rising
abbrev pub pairs : {S : Type 0} → Receiving S → List (Pair S)
pairs r = r.earlier ++ r.newest ∷ []

-- state 0 alone
abbrev pub start : {S : Type 0} → S → Receiving S
start state = record { earlier = []; newest = record { number = 0; state = state } }

-- the number of the first pair, or n if there is none
abbrev pub first_number : {S : Type 0} → List (Pair S) → ℕ → ℕ
first_number [] n = n
first_number (p ∷ ps) n = p.number

-- the numbers rise up to n
abbrev pub AreBelow : {S : Type 0} → List (Pair S) → ℕ → Type 0
AreBelow [] n = Unit {0}
AreBelow (p ∷ ps) n = (p.number < first_number ps n) × AreBelow ps n

-- the state with this number
abbrev pub state_at : {S : Type 0} → ℕ → List (Pair S) → Option S
state_at n [] = None
state_at n (p ∷ ps) = if p.number == n then Some p.state else state_at n ps

-- the pairs that are not below the floor
abbrev pub from_floor : {S : Type 0} → ℕ → List (Pair S) → List (Pair S)
from_floor floor ps = filter (λ p. nat_le floor p.number) ps

-- the kind of an instruction to a receiver
abbrev pub step_for : {S : Type 0} → Receiving S → ℕ → ℕ → ℕ → Step
step_for r old new floor =
    if nat_le new r.newest.number then step.Old
    else if is_none (state_at old (pairs r)) then step.Gap
    else if nat_le most_held (length (from_floor floor (pairs r))) then step.Gap
    else step.New

-- A new state is taken: the diff is applied to the state with the number old, and pairs below floor are dropped.
pub record Takes {S : Type 0} (applied : S → List ℕ → Option S) (r : Receiving S) (old new floor : ℕ) (change : List ℕ)
    (r' : Receiving S) : Type 0 where
  pub base : S
  pub held : state_at old (pairs r) ≡ Some base
  pub leads : applied base change ≡ Some r'.newest.state
  pub number : r'.newest.number ≡ new
  pub earlier : r'.earlier ≡ from_floor floor (pairs r)
