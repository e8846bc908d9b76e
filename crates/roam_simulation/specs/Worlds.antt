-- The model of a world of the code.
use Rattle.std.specs.Prelude.{◌≡◌, ℕ, List, map, slice_index_or, Option, Some, None, true, false, ◌≤◌, length}
use Rattle.roam_acts.specs.Senders.{IsFull, IsSpent}
use Rattle.roam_cells.specs.declared.faults.Fault.TheVariants.{BadChange, OutOfMemory}
use Rattle.roam_wire.specs.Datagrams.{DatagramValue, datagram_text}
use Rattle.roam_session.specs.Sessions.{SessionSize}
use Rattle.roam_model.specs.Lists.{IsIn}
use Rattle.roam_model.specs.Clients.{Client}
use Rattle.roam_model.specs.ClientArrivals.{IsGap}
use Rattle.roam_model.specs.Worlds.{World, Event, PaneBytes, Typed, ServerTick, ClientTick, ToServer, ToClient, Start, Drain, Reply, Done, Sent, Taken, Heard, Refused, Failed, Stopped, datagram_at}
use Rattle.roam_model.specs.Steps.{is_unfit, wstep}
use Rattle.roam_model.specs.Laws.{Reaches, TakesActsInOrder}
use Rattle.roam_model.specs.Numbers.{screen}
use Rattle.roam_hub.specs.Clients.{ClientView, Stands as ClientStands}
use Rattle.roam_hub.specs.Servers.{ServerView, Stands as ServerStands}

-- the value of a world for contracts: its session's id, its server, the instance in each slot, the ids that were used, and the texts of all
-- datagrams ever sent
pub record WorldView : Type 0 where
  pub session : ℕ
  pub server : ServerView
  pub slots : List (Option ClientView)
  pub used : List ℕ
  pub sent : List (List ℕ)

-- the instance in a slot, if there is one
abbrev pub start_in : List (Option ClientView) → ℕ → Option ClientView
start_in slots slot = slice_index_or slots slot None

-- an instance in a slot is that of the slot's id, and an empty slot has no id
abbrev pub Fills : ℕ → (ℕ → Client) → Option ClientView → Option ℕ → Type 0
Fills session clients None None = Unit {0}
Fills session clients None (Some id) = ⊥
Fills session clients (Some v) None = ⊥
Fills session clients (Some v) (Some id) = ClientStands v session id (clients id)

-- the slots have the instances of their ids, each of which was made, and none of which is in two; the used ids are those of all instances
pub record StartsStand (session : ℕ) (slots : List (Option ClientView)) (used : List ℕ) (clients : ℕ → Client) (ids : ℕ → Option ℕ)
    : Type 0 where
  pub filled : (slot : ℕ) → Fills session clients (start_in slots slot) (ids slot)
  pub made : (slot id : ℕ) → ids slot ≡ Some id → (clients id).made ≡ true
  pub once : (slot other id : ℕ) → ids slot ≡ Some id → ids other ≡ Some id → slot ≡ other
  pub all : (id : ℕ) → (clients id).made ≡ true → IsIn id used
  pub just : (id : ℕ) → IsIn id used → (clients id).made ≡ true

-- a world of the code is a world of the definitions
pub record Stands (v : WorldView) (w : World) : Type 0 where
  pub session : v.session ≡ w.server.session
  pub server : ServerStands v.server w.server
  pub starts : StartsStand w.server.session v.slots v.used w.clients w.slots
  pub sent : v.sent ≡ map datagram_text w.sent

-- a world of the code models events with their replies: it models some world that they reach
pub record StandsFor (v : WorldView) (session : ℕ) (size : SessionSize) (es : List Event) (rs : List Reply) : Type 0 where
  pub world : World
  pub reached : Reaches session size es rs world
  pub stands : Stands v world

-- some events with their replies reach a world
pub record IsReached (w : World) : Type 0 where
  pub session : ℕ
  pub size : SessionSize
  pub events : List Event
  pub replies : List Reply
  pub reaches : Reaches session size events replies w

-- memory was wanting
abbrev pub IsWant : Reply → Type 0
IsWant (Failed OutOfMemory) = Unit {0}
IsWant (Stopped OutOfMemory taken) = Unit {0}
IsWant _ = ⊥

-- Memory may be refused for an event: an act that an instance would take; a tick, whose room is made first; a datagram that was sent; an
-- instance of an id that wasn't used, of a fitting version. Bytes from a pane's program, or to it, take none.
abbrev pub MayWant : World → Event → Type 0
MayWant w (PaneBytes pane bytes) = ⊥
MayWant w (Typed slot act) =
    (id : ℕ) × (w.slots slot ≡ Some id) × ((w.clients id).kept.watches ≡ false) × (IsFull (w.clients id).kept.acts → ⊥)
    × (IsSpent (w.clients id).kept.acts → ⊥)
MayWant w (ServerTick now) = Unit {0}
MayWant w (ClientTick slot now) = (id : ℕ) × (w.slots slot ≡ Some id)
MayWant w (ToServer k from now) = (d : DatagramValue) × (datagram_at w.sent k ≡ Some d)
MayWant w (ToClient slot k now) =
    (id : ℕ) × (w.slots slot ≡ Some id) × ((d : DatagramValue) × (datagram_at w.sent k ≡ Some d))
MayWant w (Start slot id version watches) = ((w.clients id).made ≡ false) × (is_unfit version watches ≡ false)
MayWant w (Drain pane n) = ⊥

-- an event with its reply makes of a world another one, which this value models; memory is refused only if that is possible
pub record Steps (w : World) (e : Event) (r : Reply) (new : WorldView) : Type 0 where
  pub left : World
  pub step : wstep w e r left
  pub stands : Stands new left
  pub memory : IsWant r → MayWant w e

-- Each instance in a slot shows a number that was made, or 0, and exactly the screen of that number. The acts of each instance that were
-- taken are the first of those typed there, each once and in order.
pub record ShowsSession (v : WorldView) (w : World) : Type 0 where
  pub made : (slot : ℕ) (c : ClientView) → start_in v.slots slot ≡ Some c → c.kept.receiver.newest.number ≤ length w.server.cuts
  pub same : (slot : ℕ) (c : ClientView) → start_in v.slots slot ≡ Some c
      → c.kept.receiver.newest.state ≡ screen c.kept.version w.server.size w.server.log w.server.cuts c.kept.receiver.newest.number
  pub acts : TakesActsInOrder w

-- a datagram to a client instance isn't answered by a gap or a bad diff
abbrev pub IsNoGap : Event → Reply → Type 0
IsNoGap (ToClient slot number now) reply = ((reply ≡ Heard IsGap) → ⊥) × ((reply ≡ Failed BadChange) → ⊥)
IsNoGap _ reply = Unit {0}

-- a reply that nothing is done
abbrev pub IsRefusal : Reply → Type 0
IsRefusal Done = ⊥
IsRefusal (Sent first count) = ⊥
IsRefusal (Taken count) = ⊥
IsRefusal (Heard how) = ⊥
IsRefusal Refused = Unit {0}
IsRefusal (Failed fault) = Unit {0}
IsRefusal (Stopped fault taken) = ⊥
