-- One hop: from the input of a session to the screen of the outer terminal of a client instance.
use Rattle.std.specs.Prelude.{◌≡◌, ℕ, ◌<◌, ◌≤◌, ◌^◌, List, length, ◌++◌, map, Some, Result, Ok, Err, true}
use Rattle.roam_cells.specs.declared.faults.Fault.{Fault}
use Rattle.roam_cells.specs.declared.faults.Fault.TheVariants.{OutOfMemory}
use Rattle.roam_screens.specs.Screenshot.{Screenshot}
use Rattle.roam_text.specs.Log.{Item, Byte}
use Rattle.roam_paint.specs.Ground.{Displays}
use Rattle.roam_paint.specs.Painting.{text_between}
use Rattle.roam_sync.specs.Receivers.{pairs, state_at, from_floor}
use Rattle.roam_wire.specs.Headers.{header_at}
use Rattle.roam_layout.specs.Layouts.{IsSessionSize}
use Rattle.roam_session.specs.Faces.{face}
use Rattle.roam_model.specs.Versions.{seen_by}
use Rattle.roam_model.specs.Lists.{IsIn}
use Rattle.roam_model.specs.Servers.{Record, Server, moment}
use Rattle.roam_model.specs.Ticks.{makes, number_after, is_offered}
use Rattle.roam_model.specs.Clients.{Client, shown_number, shown_screen}
use Rattle.roam_model.specs.Worlds.{World}
use Rattle.roam_hub.specs.Servers.{ServerView, Stands as ServerStands}
use Rattle.roam_hub.specs.Clients.{ClientView, Stands as ClientStands}
use Rattle.roam_hub.specs.declared.clients.Heard.{Heard}
use Rattle.roam_turns.specs.Calls.{Parcel, ClientCall, RunOf}
use Rattle.roam_turns.specs.Calls.ServerCall.{ServerTick}
use Rattle.roam_turns.specs.Calls.ClientCall.{Typed, ToClient, ClientTick}
use Rattle.roam_turns.specs.Cores.{server_step, client_step}
use Rattle.roam_turns.specs.Painting.{Fits}

-- ---- the facts before

-- A client instance is ready for a number, by its record at the server:
-- - both are of one version;
-- - the instance has the pair of the sender's base;
-- - it shows a number from that one on, below this one;
-- - it gathered no instruction as high as the next;
-- - it has at most seven pairs from the base on.
pub record IsReady (n : ℕ) (r : Record) (c : Client) : Type 0 where
  pub version : c.kept.version ≡ r.version
  pub base : state_at r.sender.base.number (pairs c.kept.receiver) ≡ Some r.sender.base.state
  pub from : r.sender.base.number ≤ shown_number c
  pub below : shown_number c < n
  pub gathered : c.kept.gathering.id ≤ length r.instructions
  pub few : length (from_floor r.sender.base.number (pairs c.kept.receiver)) ≤ 7

-- the session began with a size that it may have, and ids have 64 bits
pub record HasIds (s : Server) : Type 0 where
  pub size : IsSessionSize s.size.rows s.size.cols
  pub session : s.session < 2 ^ 64
  pub starts : (id : ℕ) → IsIn id s.arrival → id < 2 ^ 64

-- the newest number after a tick at a moment
abbrev pub number_by : Server → ℕ → ℕ
number_by s now = number_after s (moment s now)

-- a tick at a moment offers its number to an instance
abbrev pub IsOffered : Server → ℕ → ℕ → Type 0
IsOffered s id now = is_offered (s.records id) (number_by s now) (moment s now) ≡ true

-- so it is in a world: each instance to which a tick would offer its number is ready for it
pub record IsReadyForTicks (w : World) : Type 0 where
  pub ids : HasIds w.server
  pub ready : (id now : ℕ) → IsOffered w.server id now → IsReady (number_by w.server now) (w.server.records id) (w.clients id)

-- ---- the hop

-- bytes have the id of an instance
abbrev pub IsTo : ℕ → List ℕ → Type 0
IsTo id bytes = (header_at bytes).client ≡ id

-- an instance is handed a parcel to it, and memory isn't wanting
abbrev pub IsHandedOver : List Parcel → ℕ → ClientCall → Type 0
IsHandedOver parcels id (ToClient bytes now answer) =
    IsIn bytes (map (λ (l : Parcel). l.1) parcels) × IsTo id bytes × ((answer ≡ Err OutOfMemory) → ⊥)
IsHandedOver parcels id (Typed act answer) = ⊥
IsHandedOver parcels id (ClientTick now answer) = ⊥

-- just the parcels to an instance are handed to it, each at least once, in any order, and memory is never wanting
pub record HandsOver (parcels : List Parcel) (id : ℕ) (calls : List ClientCall) : Type 0 where
  pub just : (call : ClientCall) → IsIn call calls → IsHandedOver parcels id call
  pub all : (bytes : List ℕ) → IsIn bytes (map (λ (l : Parcel). l.1) parcels) → IsTo id bytes
      → (now : ℕ) × (answer : Result Heard Fault) × IsIn (ToClient bytes now answer) calls

-- A tick of a server makes a number and offers it to an instance that is ready for it, and just the parcels to it come there. The contracts
-- of the calls are all that is known of both ends.
pub record Hop (s : Server) (id now : ℕ) (c : Client) (after : ClientView) : Type 0 where
  pub ids : HasIds s
  pub made : makes s (moment s now) ≡ true
  pub offered : IsOffered s id now
  pub ready : IsReady (number_by s now) (s.records id) c
  pub server : ServerView
  pub server_stands : ServerStands server s
  pub parcels : List Parcel
  pub ticked : ServerView
  pub ticks : server_step server (ServerTick now (Ok parcels)) ticked
  pub client : ClientView
  pub client_stands : ClientStands client s.session id c
  pub calls : List ClientCall
  pub hands_over : HandsOver parcels id calls
  pub come : RunOf client_step client calls after

-- the face of all that was put into the session, as an instance's version is shown it
abbrev pub seen_face : Server → Client → Screenshot
seen_face s c = seen_by c.kept.version (face s.size s.log)

-- The instance shows the face of the whole input of the session, as its version is shown it, under the number that was made. Any terminal
-- that showed the instance's earlier screen, of at least that screen's size, shows it once the text between the two is written.
pub record Arrives (s : Server) (now : ℕ) (c : Client) (after : ClientView) : Type 0 where
  pub number : after.kept.receiver.newest.number ≡ number_by s now
  pub screen : after.kept.receiver.newest.state ≡ seen_face s c
  pub terminal : (rows cols lines : ℕ) (log : List Item)
      → Displays rows cols lines log (shown_screen c) → Fits rows cols lines log (seen_face s c)
      → Displays rows cols lines (log ++ map Byte (text_between (shown_screen c) (seen_face s c))) (seen_face s c)

-- so it is after every hop
abbrev pub OneHop : Type 0
OneHop = (s : Server) (id now : ℕ) (c : Client) (after : ClientView) → Hop s id now c after → Arrives s now c after
