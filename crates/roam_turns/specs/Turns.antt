-- A turn: the calls that it makes, of its ports and of its core, in their order.
use Rattle.std.specs.Prelude.{◌≡◌, ℕ, ◌<◌, ◌≤◌, List, [], ◌∷◌, ◌++◌, map, Bool, Option, Some, None, Result, Ok, Err, is_ok, true, false}
use Rattle.roam_term.specs.Limits.{longest_piece}
use Rattle.roam_cells.specs.declared.faults.Fault.{Fault}
use Rattle.roam_screens.specs.Screenshot.{Screenshot}
use Rattle.roam_acts.specs.declared.acts.Act.{Act}
use Rattle.roam_cells.specs.declared.addresses.Addr.{Addr}
use Rattle.roam_hub.specs.declared.addresses.Stop.{Stop}
use Rattle.roam_hub.specs.declared.clients.Heard.{Heard}
use Rattle.roam_turns.specs.Calls.{Parcel, PortCall, ServerCall, ClientCall}
use Rattle.roam_turns.specs.Calls.PortCall.{Now, Sent, PaneGenerations, PaneGave, PaneGaveNothing, PaneTook, Showed}
use Rattle.roam_turns.specs.Calls.ServerCall.{ToServer, Generation, Room, PaneBytes, Output, Drain, ServerTick}
use Rattle.roam_turns.specs.Calls.ClientCall.{Typed, ToClient, ClientTick}
use Rattle.roam_turns.specs.declared.outer.Noted.{Noted}
use Rattle.roam_turns.specs.Painting.{IsNoted, text_for}
use Rattle.roam_turns.specs.Parts.{Call, Then, Each, ReceivesUpTo}
use Rattle.roam_turns.specs.Parts.Call.{Port, Core}

-- ---- both turns

-- the datagrams of a tick: none if it is refused
abbrev pub sent_in : {L : Type 0} → Result (List L) Fault → List L
sent_in (Ok all) = all
sent_in (Err fault) = []

-- each parcel is sent, in their order
abbrev pub Sends : List Parcel → List PortCall → Type 0
Sends [] calls = calls ≡ []
Sends (parcel ∷ parcels) calls =
    (went : Bool) × (rest : List PortCall) × (calls ≡ Sent parcel.0 parcel.1 went ∷ rest) × Sends parcels rest

-- ---- the server's turn

-- a datagram is handed to the server at a moment
abbrev pub IsToServer : ℕ → Addr → List ℕ → ServerCall → Type 0
IsToServer now from bytes call = (answer : Result ℕ Stop) × (call ≡ ToServer from bytes now answer)

-- the ports get the generation of a pane, as the server returns it
abbrev pub TellsGeneration : ℕ → List (Call ServerCall) → Type 0
TellsGeneration pane calls = (generation : Option ℕ) × (calls ≡ Core (Generation pane generation) ∷ Port (PaneGenerations pane generation) ∷ [])

-- there is room for the answers to a full piece: 12 bytes for each of 1,024
abbrev pub TakesPiece : Option ℕ → Type 0
TakesPiece None = ⊥
TakesPiece (Some room) = 12288 ≤ room

-- A pane's program is asked for up to 1,024 bytes, if the pane is there and would take them: the pane isn't there or hasn't the room;
-- nothing came; only an empty piece came; or a piece, which is passed to the server.
pub data AsksPane (pane : ℕ) (calls : List (Call ServerCall)) : Type 0 where
  full : (room : Option ℕ) → (TakesPiece room → ⊥) → calls ≡ Core (Room pane room) ∷ [] → AsksPane pane calls
  nothing : (room : Option ℕ) → TakesPiece room → calls ≡ Core (Room pane room) ∷ Port (PaneGaveNothing pane longest_piece) ∷ []
      → AsksPane pane calls
  empty : (room : Option ℕ) → TakesPiece room → calls ≡ Core (Room pane room) ∷ Port (PaneGave pane longest_piece []) ∷ []
      → AsksPane pane calls
  piece : (room : Option ℕ) (bytes : List ℕ) (answer : Result (Unit {0}) Fault) → TakesPiece room → (bytes ≡ [] → ⊥)
      → calls ≡ Core (Room pane room) ∷ Port (PaneGave pane longest_piece bytes) ∷ Core (PaneBytes pane bytes answer) ∷ []
      → AsksPane pane calls

-- Up to 1,024 bytes queued for a pane's program are passed to it: the pane isn't there; nothing is queued; it takes none; or it takes some,
-- and just those go.
pub data FillsPane (pane : ℕ) (calls : List (Call ServerCall)) : Type 0 where
  no_pane : calls ≡ Core (Output pane longest_piece None) ∷ [] → FillsPane pane calls
  quiet : calls ≡ Core (Output pane longest_piece (Some [])) ∷ [] → FillsPane pane calls
  refused : (bytes : List ℕ) → (bytes ≡ [] → ⊥)
      → calls ≡ Core (Output pane longest_piece (Some bytes)) ∷ Port (PaneTook pane bytes 0) ∷ [] → FillsPane pane calls
  took : (bytes : List ℕ) (n : ℕ) (answer : Result (Unit {0}) Fault) → (bytes ≡ [] → ⊥) → 0 < n
      → calls ≡ Core (Output pane longest_piece (Some bytes)) ∷ Port (PaneTook pane bytes n) ∷ Core (Drain pane n answer) ∷ []
      → FillsPane pane calls

-- a tick, and each of its parcels is sent; a refused tick sends nothing
abbrev pub ServerTicks : ℕ → List (Call ServerCall) → Type 0
ServerTicks now calls =
    (answer : Result (List Parcel) Fault) × (sent : List PortCall)
    × (calls ≡ Core (ServerTick now answer) ∷ map Port sent) × Sends (sent_in answer) sent

-- The server's turn: the moment; at most 32 datagrams of up to 2,048 bytes; the generations of panes 1 to 9; then these panes are asked,
-- and then filled; a tick.
pub record ServeTurn (calls : List (Call ServerCall)) : Type 0 where
  pub now : ℕ
  pub rest : List (Call ServerCall)
  pub all : calls ≡ Port (Now now) ∷ rest
  pub parts : Then (ReceivesUpTo (IsToServer now) 2048 32)
      (Then (Each TellsGeneration 1 9) (Then (Each AsksPane 1 9) (Then (Each FillsPane 1 9) (ServerTicks now)))) rest

-- ---- the turn of a client instance

-- the next act is typed, if there is one; and whether it was taken
abbrev pub Types : Option Act → Bool → List (Call ClientCall) → Type 0
Types None taken calls = (taken ≡ false) × (calls ≡ [])
Types (Some act) taken calls =
    (answer : Result (Unit {0}) Fault) × (taken ≡ is_ok answer) × (calls ≡ Core (Typed act answer) ∷ [])

-- a datagram is handed to the instance at a moment, wherever it came from
abbrev pub IsToClient : ℕ → Addr → List ℕ → ClientCall → Type 0
IsToClient now from bytes call = (answer : Result Heard Fault) × (call ≡ ToClient bytes now answer)

-- The screen of a number is painted if another is noted or none. The cases: it is noted already; memory is refused, and nothing is shown;
-- it is shown, and noted from now on; or that failed, and nothing is noted.
pub data Paints (number : ℕ) (screen : Screenshot) (outer outer' : Option Noted) (calls : List (Call ClientCall)) : Type 0 where
  already : IsNoted number outer → calls ≡ [] → outer' ≡ outer → Paints number screen outer outer' calls
  no_memory : (IsNoted number outer → ⊥) → calls ≡ [] → outer' ≡ outer → Paints number screen outer outer' calls
  shown : (IsNoted number outer → ⊥) → calls ≡ Port (Showed (text_for outer screen) true) ∷ []
      → outer' ≡ Some (record { number = number; screen = screen }) → Paints number screen outer outer' calls
  failed : (IsNoted number outer → ⊥) → calls ≡ Port (Showed (text_for outer screen) false) ∷ [] → outer' ≡ None
      → Paints number screen outer outer' calls

abbrev pub parcel_to : Addr → List ℕ → Parcel
parcel_to to text = (to, text)

-- a tick, and each of its texts is sent to an address; a refused tick sends nothing
abbrev pub ClientTicks : ℕ → Addr → List (Call ClientCall) → Type 0
ClientTicks now to calls =
    (answer : Result (List (List ℕ)) Fault) × (sent : List PortCall)
    × (calls ≡ Core (ClientTick now answer) ∷ map Port sent) × Sends (map (parcel_to to) (sent_in answer)) sent

-- the turn of a client instance: the moment; the next act; at most 32 datagrams of up to 2,048 bytes; its screen; a tick
pub record AttachTurn (number : ℕ) (screen : Screenshot) (outer outer' : Option Noted) (to : Addr) (next : Option Act) (taken : Bool)
    (calls : List (Call ClientCall)) : Type 0 where
  pub now : ℕ
  pub rest : List (Call ClientCall)
  pub all : calls ≡ Port (Now now) ∷ rest
  pub parts : Then (Types next taken) (Then (ReceivesUpTo (IsToClient now) 2048 32)
      (Then (Paints number screen outer outer') (ClientTicks now to))) rest

-- a turn of a client instance that shows nothing: the moment; at most 32 datagrams of up to 2,048 bytes; a tick
pub record QuietTurn (to : Addr) (calls : List (Call ClientCall)) : Type 0 where
  pub now : ℕ
  pub rest : List (Call ClientCall)
  pub all : calls ≡ Port (Now now) ∷ rest
  pub parts : Then (ReceivesUpTo (IsToClient now) 2048 32) (ClientTicks now to) rest

-- the bytes that are shown in it
abbrev pub shown_in : {C : Type 0} → List (Call C) → List ℕ
shown_in [] = []
shown_in (Port (Showed bytes went) ∷ calls) = bytes ++ shown_in calls
shown_in (_ ∷ calls) = shown_in calls
