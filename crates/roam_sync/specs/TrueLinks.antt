-- The states at both ends of a link are true, whatever is lost, late, repeated or reordered. `Is n s` says that s is the true state of the
-- number n, and `WasSent u` that the update u was ever sent.
use Rattle.std.specs.Prelude.{◌≡◌, ℕ, List, All, Option, Some}
use Rattle.roam_sync.specs.Senders.{Sending}
use Rattle.roam_sync.specs.Receivers.{Receiving, pairs}
use Rattle.roam_sync.specs.Links.{Update, held}

-- each pair of the sender is true
abbrev pub HoldsTrueStates : {S : Type 0} → (ℕ → S → Type 0) → Sending S → Type 0
HoldsTrueStates Is s = All (λ h. Is h.number h.state) (held s)

-- each pair that the receiver has is true
abbrev pub HasTrueStates : {S : Type 0} → (ℕ → S → Type 0) → Receiving S → Type 0
HasTrueStates Is r = All (λ p. Is p.number p.state) (pairs r)

-- an update leads from the true state of its old number to the true state of its new one
pub record LeadsTruly {S : Type 0} (applied : S → List ℕ → Option S) (Is : ℕ → S → Type 0) (u : Update) : Type 0 where
  pub base : S
  pub state : S
  pub from_true : Is u.old base
  pub to_true : Is u.new state
  pub leads : applied base u.change ≡ Some state

-- the facts about a link after each step; the form of `Sending` has the base among the sender's pairs
pub record TrueLink {S : Type 0} (applied : S → List ℕ → Option S) (Is : ℕ → S → Type 0) (s : Sending S) (r : Receiving S)
    (WasSent : Update → Type 0) : Type 0 where
  pub sender : HoldsTrueStates Is s
  pub receiver : HasTrueStates Is r
  pub updates : (u : Update) → WasSent u → LeadsTruly applied Is u
