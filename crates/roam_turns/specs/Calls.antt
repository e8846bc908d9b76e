-- The calls that ports and cores record.
use Rattle.std.specs.Prelude.{◌≡◌, ℕ, List, [], ◌∷◌, ◌++◌, take, map, Bool, Option, Some, None, Result, Ok, Err, ⊤, Vec}
use Rattle.std.specs.declared.alloc.Global.{Global}
use Rattle.roam_cells.specs.declared.faults.Fault.{Fault}
use Rattle.roam_acts.specs.declared.acts.Act.{Act}
use Rattle.roam_wire.specs.Cutting.{texts_of}
use Rattle.roam_cells.specs.declared.addresses.Addr.{Addr}
use Rattle.roam_hub.specs.declared.addresses.Stop.{Stop}
use Rattle.roam_hub.specs.declared.clients.Heard.{Heard}

-- these calls were made between two states, if calls are recorded to the end
abbrev pub Tells : {C : Type 0} → Option (List C) → Option (List C) → List C → Type 0
Tells None None calls = ⊤
Tells None (Some ys) calls = ⊥
Tells (Some xs) None calls = ⊤
Tells (Some xs) (Some ys) calls = ys ≡ xs ++ calls

-- ---- ports

-- A question to a door, if ports are one: whether an outer terminal comes there; whether the server is known to have ended; to rest, so
-- many milliseconds at most and no longer than until a moment; to sleep until a terminal comes, so many milliseconds at most.
pub data DoorCall : Type 0 where
  Came : Bool → DoorCall
  HasEnded : Bool → DoorCall
  Rested : ℕ → Option ℕ → DoorCall
  Slept : ℕ → DoorCall

-- A call of a port:
--
-- - the moment;
-- - a datagram that came, into room for so many bytes, and its source; or none came;
-- - a datagram to be sent to an address, and whether it went;
-- - the generation of a pane that is there, if any;
-- - the output of a pane's program, into room for so many bytes; or none;
-- - bytes passed to a program, and how many of them it took;
-- - a text to be shown, and whether it was;
-- - a question to a door, which no turn asks.
pub data PortCall : Type 0 where
  Now : ℕ → PortCall
  Received : ℕ → Addr → List ℕ → PortCall
  NothingReceived : ℕ → PortCall
  Sent : Addr → List ℕ → Bool → PortCall
  PaneGenerations : ℕ → Option ℕ → PortCall
  PaneGave : ℕ → ℕ → List ℕ → PortCall
  PaneGaveNothing : ℕ → ℕ → PortCall
  PaneTook : ℕ → List ℕ → ℕ → PortCall
  Showed : List ℕ → Bool → PortCall
  Asked : DoorCall → PortCall

-- the result of a receive into room for so many bytes
abbrev pub received_call : ℕ → Option (Addr × ℕ) → List ℕ → PortCall
received_call room None buf = NothingReceived room
received_call room (Some r) buf = Received room r.0 (take r.1 buf)

-- the output of a pane's program into room for so many bytes
abbrev pub pane_gave : ℕ → ℕ → Option ℕ → List ℕ → PortCall
pane_gave pane room None buf = PaneGaveNothing pane room
pane_gave pane room (Some n) buf = PaneGave pane room (take n buf)

-- ---- cores

-- a datagram's text, and its address
abbrev pub Parcel : Type 0
Parcel = Addr × List ℕ

-- A call of the server with its result: a datagram that came from an address at a moment; the generation of a pane; the room for the output
-- of a pane; bytes of a pane's program; the first queued bytes of a pane, so many at most; so many of them that went; a tick at a moment.
pub data ServerCall : Type 0 where
  ToServer : Addr → List ℕ → ℕ → Result ℕ Stop → ServerCall
  Generation : ℕ → Option ℕ → ServerCall
  Room : ℕ → Option ℕ → ServerCall
  PaneBytes : ℕ → List ℕ → Result (Unit {0}) Fault → ServerCall
  Output : ℕ → ℕ → Option (List ℕ) → ServerCall
  Drain : ℕ → ℕ → Result (Unit {0}) Fault → ServerCall
  ServerTick : ℕ → Result (List Parcel) Fault → ServerCall

-- a call of a client instance with its result: an act that was typed; a datagram that came at a moment; a tick at a moment
pub data ClientCall : Type 0 where
  Typed : Act → Result (Unit {0}) Fault → ClientCall
  ToClient : List ℕ → ℕ → Result Heard Fault → ClientCall
  ClientTick : ℕ → Result (List (List ℕ)) Fault → ClientCall

-- the bytes queued for a pane's program, as copied
abbrev pub copied_bytes : Option ℕ → List ℕ → Option (List ℕ)
copied_bytes None out = None
copied_bytes (Some n) out = Some (take n out)

abbrev pub parcels_in : List (Addr × Vec ℕ Global) → List Parcel
parcels_in all = map (λ p. (p.0, p.1.items)) all

-- the parcels of a server's tick
abbrev pub parcels_of : Result (Vec (Addr × Vec ℕ Global) Global) Fault → Result (List Parcel) Fault
parcels_of (Ok all) = Ok (parcels_in all.items)
parcels_of (Err fault) = Err fault

-- the texts of a client instance's tick
abbrev pub texts_in : Result (Vec (Vec ℕ Global) Global) Fault → Result (List (List ℕ)) Fault
texts_in (Ok all) = Ok (texts_of all.items)
texts_in (Err fault) = Err fault

-- one call after another, by the rule of a core
abbrev pub RunOf : {S C : Type 0} → (S → C → S → Type 0) → S → List C → S → Type 0
RunOf step old [] new = new ≡ old
RunOf {S} step old (call ∷ calls) new = (mid : S) × step old call mid × RunOf step mid calls new
