-- The link between a sender and a receiver: the pairs at both ends, and the updates between them (this project's profile of Mosh's State
-- Synchronization Protocol).
use Rattle.std.specs.Prelude.{◌≡◌, ◌≢◌, ◌⊎◌, ℕ, ◌<◌, List, [], ◌∷◌, Option, map}
use Rattle.roam_sync.specs.declared.senders.Held.{Held}
use Rattle.roam_sync.specs.declared.receivers.Step.TheVariants as step
use Rattle.roam_sync.specs.Senders.{Sending, newest}
use Rattle.roam_sync.specs.Receivers.{Receiving, pairs, step_for, Takes}

-- the contents of an instruction (Mosh: a transport instruction)
pub record Update : Type 0 where
  pub old : ℕ
  pub new : ℕ
  pub floor : ℕ
  pub change : List ℕ

-- the update with this diff that leads from the base to the newest, and lets all below the base be dropped
abbrev pub update_of : {S : Type 0} → Sending S → List ℕ → Update
update_of s change = record { old = s.base.number; new = (newest s).number; floor = s.base.number; change = change }

-- a diff that leads from the base to the newest
abbrev pub IsChange : {S : Type 0} → (S → List ℕ → Option S) → Sending S → List ℕ → Type 0
IsChange applied s change = applied s.base.state change ≡ Option.Some (newest s).state

-- an update is new to a receiver, which takes it
pub record Hears {S : Type 0} (applied : S → List ℕ → Option S) (r : Receiving S) (u : Update) (r' : Receiving S) : Type 0 where
  pub fresh : step_for r u.old u.new u.floor ≡ step.New
  pub takes : Takes applied r u.old u.new u.floor u.change r'

-- an update comes to a receiver that has memory: if it is new, it is taken; else nothing changes
pub record Delivers {S : Type 0} (applied : S → List ℕ → Option S) (r : Receiving S) (u : Update) (r' : Receiving S) : Type 0 where
  pub fresh : step_for r u.old u.new u.floor ≡ step.New → Takes applied r u.old u.new u.floor u.change r'
  pub other : step_for r u.old u.new u.floor ≢ step.New → r' ≡ r

-- all pairs of a sender
abbrev pub held : {S : Type 0} → Sending S → List (Held S)
held s = s.base ∷ s.later

-- the numbers of a sender
abbrev pub numbers_held : {S : Type 0} → Sending S → List ℕ
numbers_held s = map (λ h. h.number) (held s)

-- the numbers that a receiver has
abbrev pub numbers_had : {S : Type 0} → Receiving S → List ℕ
numbers_had r = map (λ p. p.number) (pairs r)

-- this number is among them
abbrev pub IsAmong : ℕ → List ℕ → Type 0
IsAmong n [] = ⊥
IsAmong n (m ∷ ms) = (m ≡ n) ⊎ IsAmong n ms

-- the numbers rise
abbrev pub IsRising : List ℕ → Type 0
IsRising [] = Unit {0}
IsRising (n ∷ ns) = ((m : ℕ) → IsAmong m ns → n < m) × IsRising ns
