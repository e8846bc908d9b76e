-- The events of one link, and the facts after every list of them.
use Rattle.std.specs.Prelude.{◌≡◌, ◌≢◌, ◌⊎◌, ℕ, ◌<◌, ◌≤◌, List, [], ◌∷◌, ◌++◌, length, Contains, Option, Some}
use Rattle.roam_sync.specs.Limits.{most_held}
use Rattle.roam_sync.specs.declared.receivers.Step.TheVariants as step
use Rattle.roam_sync.specs.Senders.{Sending, newest, count, offered, acked, sent_at, start as sender_start}
use Rattle.roam_sync.specs.Receivers.{Receiving, pairs, state_at, step_for, start as receiver_start}
use Rattle.roam_sync.specs.Links.{Update, update_of, IsChange, Hears, Delivers, numbers_held, numbers_had, IsAmong, IsRising}
use Rattle.roam_sync.specs.TrueLinks.{HoldsTrueStates, HasTrueStates}

-- Both ends, all updates that were ever sent, and all numbers that were ever acknowledged. Anything sent may come late, again, in another
-- order or never.
pub record Link (S : Type 0) : Type 0 where
  pub sender : Sending S
  pub receiver : Receiving S
  pub updates : List Update
  pub answers : List ℕ

-- before anything was sent
abbrev pub begun : {S : Type 0} → S → Link S
begun state = record { sender = sender_start state; receiver = receiver_start state; updates = []; answers = [] }

-- The events. A call that is refused or changes nothing is no event, nor is a loss.
pub data Event : Type 0 where
  -- the state of this number is offered
  Offer : ℕ → Event
  -- the newest is sent at this moment, with this diff
  Send : ℕ → List ℕ → Event
  -- an update that was ever sent comes to the receiver, and is new
  Deliver : Update → Event
  -- the receiver acknowledges its newest
  Answer : Event
  -- an acknowledgement that was ever sent comes to the sender
  Acknowledge : ℕ → Event

-- the effect of an event on a link, with `states` as the true states of the numbers
abbrev pub Follows : {S : Type 0} → (S → List ℕ → Option S) → (ℕ → S) → Link S → Event → Link S → Type 0
Follows applied states link (Offer n) after =
    ((newest link.sender).number < n) × (count link.sender < most_held)
    × (after ≡ record link { sender = offered link.sender n (states n) })
Follows applied states link (Send now change) after =
    IsChange applied link.sender change
    × (after ≡ record link { sender = sent_at link.sender now; updates = link.updates ++ update_of link.sender change ∷ [] })
Follows {S} applied states link (Deliver u) after =
    Contains link.updates u × ((r : Receiving S) × Hears applied link.receiver u r × (after ≡ record link { receiver = r }))
Follows applied states link Answer after = after ≡ record link { answers = link.answers ++ link.receiver.newest.number ∷ [] }
Follows applied states link (Acknowledge n) after = Contains link.answers n × (after ≡ record link { sender = acked link.sender n })

-- the effect of a list of events on a link
abbrev pub Becomes : {S : Type 0} → (S → List ℕ → Option S) → (ℕ → S) → Link S → List Event → Link S → Type 0
Becomes applied states link [] after = after ≡ link
Becomes {S} applied states link (e ∷ es) after =
    (next : Link S) × Follows applied states link e next × Becomes applied states next es after

-- the effect of a list of events on a new link
abbrev pub Runs : {S : Type 0} → (S → List ℕ → Option S) → (ℕ → S) → List Event → Link S → Type 0
Runs applied states events link = Becomes applied states (begun (states 0)) events link

-- the newest number that was offered, after the one given
abbrev pub last_offered : ℕ → List Event → ℕ
last_offered n [] = n
last_offered n (Offer m ∷ es) = last_offered m es
last_offered n (Send now change ∷ es) = last_offered n es
last_offered n (Deliver u ∷ es) = last_offered n es
last_offered n (Answer ∷ es) = last_offered n es
last_offered n (Acknowledge m ∷ es) = last_offered n es

-- a state is the one of its number
abbrev pub IsOf : {S : Type 0} → (ℕ → S) → ℕ → S → Type 0
IsOf states n s = s ≡ states n

-- each pair that either end has is the state of its number
abbrev pub EachPairIsTrue : {S : Type 0} → (S → List ℕ → Option S) → Type 0
EachPairIsTrue {S} applied = (states : ℕ → S) (events : List Event) (link : Link S) → Runs applied states events link
    → HoldsTrueStates (IsOf states) link.sender × HasTrueStates (IsOf states) link.receiver

-- the numbers at both ends rise
abbrev pub NumbersRise : {S : Type 0} → (S → List ℕ → Option S) → Type 0
NumbersRise {S} applied = (states : ℕ → S) (events : List Event) (link : Link S) → Runs applied states events link
    → IsRising (numbers_held link.sender) × IsRising (numbers_had link.receiver)

-- the receiver has the sender's base, and the sender has all that the receiver has from there on
abbrev pub BaseIsShared : {S : Type 0} → (S → List ℕ → Option S) → Type 0
BaseIsShared {S} applied = (states : ℕ → S) (events : List Event) (link : Link S) → Runs applied states events link
    → IsAmong link.sender.base.number (numbers_had link.receiver)
    × ((n : ℕ) → IsAmong n (numbers_had link.receiver) → link.sender.base.number ≤ n → IsAmong n (numbers_held link.sender))

-- Each update that was ever sent leads from the state of its old number to the state of its new one. The receiver has the old number, or a
-- newest one that isn't below the new.
abbrev pub UpdatesLeadOn : {S : Type 0} → (S → List ℕ → Option S) → Type 0
UpdatesLeadOn {S} applied = (states : ℕ → S) (events : List Event) (link : Link S) → Runs applied states events link
    → (u : Update) → Contains link.updates u
    → (applied (states u.old) u.change ≡ Some (states u.new))
    × (IsAmong u.old (numbers_had link.receiver) ⊎ (u.new ≤ link.receiver.newest.number))

-- whatever update comes that was ever sent, it makes no gap
abbrev pub NoUpdateMakesAGap : {S : Type 0} → (S → List ℕ → Option S) → Type 0
NoUpdateMakesAGap {S} applied = (states : ℕ → S) (events : List Event) (link : Link S) → Runs applied states events link
    → (u : Update) → Contains link.updates u → step_for link.receiver u.old u.new u.floor ≢ step.Gap

-- whatever update comes that was ever sent, its diff leads from the state that the receiver has to the state of its new number
abbrev pub NoChangeIsBad : {S : Type 0} → (S → List ℕ → Option S) → Type 0
NoChangeIsBad {S} applied = (states : ℕ → S) (events : List Event) (link : Link S) → Runs applied states events link
    → (u : Update) → Contains link.updates u → (base : S) → state_at u.old (pairs link.receiver) ≡ Some base
    → applied base u.change ≡ Some (states u.new)

-- neither end ever has nine pairs
abbrev pub NoNinthPair : {S : Type 0} → (S → List ℕ → Option S) → Type 0
NoNinthPair {S} applied = (states : ℕ → S) (events : List Event) (link : Link S) → Runs applied states events link
    → (count link.sender ≤ most_held) × (length (pairs link.receiver) ≤ most_held)

-- After any list of events, the newest is sent, and its update comes. Then the receiver has the newest number that was offered, with its
-- state. If it acknowledges that, the sender has nothing older.
abbrev pub OneRoundSuffices : {S : Type 0} → (S → List ℕ → Option S) → Type 0
OneRoundSuffices {S} applied = (states : ℕ → S) (events : List Event) (link : Link S) → Runs applied states events link
    → (now : ℕ) (change : List ℕ) → IsChange applied link.sender change
    → (r : Receiving S) → Delivers applied link.receiver (update_of link.sender change) r
    → (r.newest.number ≡ last_offered 0 events) × (r.newest.state ≡ states (last_offered 0 events))
    × (count (acked (sent_at link.sender now) r.newest.number) ≡ 1)
