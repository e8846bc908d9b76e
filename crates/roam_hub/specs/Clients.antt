-- The model of a client instance of the code, and the results and effects of its calls.
use Rattle.std.specs.Prelude.{◌≡◌, ℕ, ◌+◌, ◌<◌, List, [], map, fold, length, Some, None, Result, Ok, Err, Bool, true, false, nat_lt, Vec}
use Rattle.std.specs.declared.alloc.Global.{Global}
use Rattle.roam_cells.specs.declared.faults.Fault.{Fault}
use Rattle.roam_cells.specs.declared.faults.Fault.TheVariants.{OutOfMemory, Busy, BadDatagram, BadChange, Spent, Watching}
use Rattle.roam_cells.specs.declared.faults.Reason.{Reason}
use Rattle.roam_screens.specs.Screenshot.{Screenshot}
use Rattle.roam_acts.specs.declared.acts.Act.{Act}
use Rattle.roam_acts.specs.Senders.{Typing, HasNoRoom, IsFull, IsShort, IsSpent, acked_to}
use Rattle.roam_sync.specs.declared.receivers.Step.{Step}
use Rattle.roam_sync.specs.declared.receivers.Step.TheVariants as step
use Rattle.roam_sync.specs.Receivers.{Receiving, pairs, state_at, step_for}
use Rattle.roam_sync.specs.Links.{Delivers}
use Rattle.roam_wire.specs.Cutting.{texts_of}
use Rattle.roam_wire.specs.Datagrams.{DatagramValue, IsDatagram, datagram_text}
use Rattle.roam_wire.specs.Gatherers.{Gathering}
use Rattle.roam_wire.specs.Headers.{datagram_at}
use Rattle.roam_wire.specs.Instructions.{DownValue}
use Rattle.roam_model.specs.Texts.{SaysDown, SaysNoDown, update_in}
use Rattle.roam_model.specs.Moments.{is_spent}
use Rattle.roam_wire.specs.declared.versions.Version.{Version}
use Rattle.roam_model.specs.Versions.{applied_by}
use Rattle.roam_model.specs.Clients.{Kept, Client, moment_of, after_typed}
use Rattle.roam_model.specs.ClientArrivals.{Hearing, IsPart, IsOld, IsGap, IsNew, arriving, after_fragment, step_of, hearing_of, after_whole}
use Rattle.roam_model.specs.Arrival.{turned_away, noted, completed}
use Rattle.roam_model.specs.Sendings.{is_client_due, is_client_spent, datagrams_from, after_sending, after_quiet}
use Rattle.roam_hub.specs.declared.clients.Heard.{Heard}
use Rattle.roam_hub.specs.declared.clients.Heard.TheVariants as heard

-- the value of a client instance for contracts: its session, its id, and the kept part of the definitions
pub record ClientView : Type 0 where
  pub session : ℕ
  pub id : ℕ
  pub kept : Kept

-- an instance of this id in this session
abbrev pub view_of : ℕ → ℕ → Client → ClientView
view_of session id c = record { session = session; id = id; kept = c.kept }

-- an instance of the code models an instance of the definitions: it has its kept part
abbrev pub Stands : ClientView → ℕ → ℕ → Client → Type 0
Stands v session id c = v ≡ view_of session id c

-- it is as before, but for the kept part
abbrev pub keeping : ClientView → Kept → ClientView
keeping v k = record v { kept = k }

-- the result for a datagram, as the definitions name it
abbrev pub hearing_in : Heard → Hearing
hearing_in heard.Part = IsPart
hearing_in heard.Old = IsOld
hearing_in heard.Gap = IsGap
hearing_in heard.New = IsNew

-- an act is typed: the instance only watches; 1,024 are unacknowledged; numbers are spent; it is taken; or memory is wanting
pub data Types (v : ClientView) (act : Act) (result : Result (Unit {0}) Fault) (new : ClientView) : Type 0 where
  watching : v.kept.watches ≡ true → result ≡ Err Watching → new ≡ v → Types v act result new
  full : v.kept.watches ≡ false → IsFull v.kept.acts → result ≡ Err Busy → new ≡ v → Types v act result new
  spent : v.kept.watches ≡ false → IsSpent v.kept.acts → result ≡ Err Spent → new ≡ v → Types v act result new
  typed : v.kept.watches ≡ false → (IsFull v.kept.acts → ⊥) → (IsSpent v.kept.acts → ⊥) → result ≡ Ok tt
      → new ≡ keeping v (after_typed v.kept act) → Types v act result new
  no_memory : v.kept.watches ≡ false → (IsFull v.kept.acts → ⊥) → (IsSpent v.kept.acts → ⊥) → result ≡ Err OutOfMemory → new ≡ v
      → Types v act result new

-- several acts were typed, one after another
abbrev pub after_typed_all : Kept → List Act → Kept
after_typed_all k acts = fold after_typed k acts

-- Several acts are typed: the instance is read-only; more than 1,024 would be unacknowledged; numbers are spent; all of them are taken; or
-- memory is refused.
pub data TypesAll (v : ClientView) (acts : List Act) (result : Result (Unit {0}) Fault) (new : ClientView) : Type 0 where
  watching : v.kept.watches ≡ true → result ≡ Err Watching → new ≡ v → TypesAll v acts result new
  full : v.kept.watches ≡ false → HasNoRoom v.kept.acts (length acts) → result ≡ Err Busy → new ≡ v
      → TypesAll v acts result new
  spent : v.kept.watches ≡ false → IsShort v.kept.acts (length acts) → result ≡ Err Spent → new ≡ v
      → TypesAll v acts result new
  typed : v.kept.watches ≡ false → (HasNoRoom v.kept.acts (length acts) → ⊥) → (IsShort v.kept.acts (length acts) → ⊥) → result ≡ Ok tt
      → new ≡ keeping v (after_typed_all v.kept acts) → TypesAll v acts result new
  no_memory : v.kept.watches ≡ false → (HasNoRoom v.kept.acts (length acts) → ⊥) → (IsShort v.kept.acts (length acts) → ⊥) → 0 < length acts
      → result ≡ Err OutOfMemory → new ≡ v → TypesAll v acts result new

-- an instruction's text was read and delivered to a receiver of a version: the result, whether its new number is above its old one, and the
-- acts then
pub record Delivered (version : Version) (text : List ℕ) (old : Typing) (r : Receiving Screenshot) (answer : Step) (owes : Bool)
    (new : Typing) (r' : Receiving Screenshot) : Type 0 where
  pub value : DownValue
  pub says : SaysDown text value
  pub delivers : Delivers (applied_by version) r (update_in value) r'
  pub step : answer ≡ step_for r value.old value.new value.floor
  pub newer : owes ≡ nat_lt value.old value.new
  pub acts : new ≡ acked_to old value.acked

-- the reasons for which a text isn't delivered: it is none; its diff is bad; or memory is refused
pub data NotDelivered (version : Version) (text : List ℕ) (r : Receiving Screenshot) (fault : Fault) : Type 0 where
  unread : (why : Reason) → SaysNoDown text why → fault ≡ BadDatagram why → NotDelivered version text r fault
  bad_change : (v : DownValue) (base : Screenshot) → SaysDown text v → step_for r v.old v.new v.floor ≡ step.New
      → state_at v.old (pairs r) ≡ Some base → applied_by version base v.change ≡ None
      → fault ≡ BadChange → NotDelivered version text r fault
  no_memory : fault ≡ OutOfMemory → NotDelivered version text r fault

-- bytes are no datagram, and why
pub record IsNoDatagram (bytes : List ℕ) (why : Reason) : Type 0 where
  pub none : (d : DatagramValue) → IsDatagram d → bytes ≡ datagram_text d → ⊥
  pub reason : datagram_at bytes ≡ Err why

-- bytes are a datagram
pub record IsTextOf (bytes : List ℕ) (d : DatagramValue) : Type 0 where
  pub is : IsDatagram d
  pub spelled : bytes ≡ datagram_text d

-- Bytes come: they are no datagram; it is refused; it completes no instruction; its instruction is invalid; its diff is bad; the receiver
-- takes its update; or memory is refused for a datagram.
pub data Hears (v : ClientView) (bytes : List ℕ) (now : ℕ) (result : Result Heard Fault) (new : ClientView)
    : Type 0 where
  no_datagram : (why : Reason) → IsNoDatagram bytes why → result ≡ Err (BadDatagram why) → new ≡ v
      → Hears v bytes now result new
  refused : (d : DatagramValue) (fault : Fault) → IsTextOf bytes d → arriving v.session v.id v.kept d ≡ turned_away fault
      → result ≡ Err fault → new ≡ v → Hears v bytes now result new
  fragment : (d : DatagramValue) (h : Heard) (g : Gathering) → IsTextOf bytes d → arriving v.session v.id v.kept d ≡ noted (hearing_in h) g
      → result ≡ Ok h → new ≡ keeping v (after_fragment v.kept (moment_of v.kept now) g) → Hears v bytes now result new
  unread : (d : DatagramValue) (g : Gathering) (text : List ℕ) (why : Reason) → IsTextOf bytes d
      → arriving v.session v.id v.kept d ≡ completed g text → SaysNoDown text why
      → result ≡ Err (BadDatagram why) → new ≡ v → Hears v bytes now result new
  bad_change : (d : DatagramValue) (g : Gathering) (text : List ℕ) (u : DownValue) (base : Screenshot) → IsTextOf bytes d
      → arriving v.session v.id v.kept d ≡ completed g text → SaysDown text u
      → step_of v.kept u ≡ step.New → state_at u.old (pairs v.kept.receiver) ≡ Some base
      → applied_by v.kept.version base u.change ≡ None
      → result ≡ Err BadChange → new ≡ v → Hears v bytes now result new
  whole : (d : DatagramValue) (h : Heard) (g : Gathering) (text : List ℕ) (u : DownValue) (r : Receiving Screenshot) → IsTextOf bytes d
      → arriving v.session v.id v.kept d ≡ completed g text → SaysDown text u
      → Delivers (applied_by v.kept.version) v.kept.receiver (update_in u) r
      → result ≡ Ok h → hearing_in h ≡ hearing_of (step_of v.kept u)
      → new ≡ keeping v (after_whole v.kept (moment_of v.kept now) g r u) → Hears v bytes now result new
  no_memory : (d : DatagramValue) → IsTextOf bytes d → result ≡ Err OutOfMemory → new ≡ v
      → Hears v bytes now result new

-- A tick: nothing is due; numbers are spent; the datagrams are answered in their order; or memory is wanting.
pub data Sends (v : ClientView) (now : ℕ) (result : Result (Vec (Vec ℕ Global) Global) Fault) (new : ClientView)
    : Type 0 where
  quiet : (none : Vec (Vec ℕ Global) Global) → is_client_due v.kept (moment_of v.kept now) ≡ false
      → result ≡ Ok none → texts_of none.items ≡ []
      → new ≡ keeping v (after_quiet v.kept (moment_of v.kept now)) → Sends v now result new
  spent : is_client_due v.kept (moment_of v.kept now) ≡ true → is_client_spent v.kept ≡ true
      → result ≡ Err Spent → new ≡ v → Sends v now result new
  sent : (all : Vec (Vec ℕ Global) Global) → is_client_due v.kept (moment_of v.kept now) ≡ true → is_client_spent v.kept ≡ false
      → result ≡ Ok all → texts_of all.items ≡ map datagram_text (datagrams_from v.session v.id v.kept)
      → new ≡ keeping v (after_sending v.kept (moment_of v.kept now)) → Sends v now result new
  no_memory : is_client_due v.kept (moment_of v.kept now) ≡ true → is_spent (v.kept.acts.acked + 1) ≡ false → result ≡ Err OutOfMemory
      → new ≡ v → Sends v now result new
