-- The model of a server of the code, and the results and effects of its calls.
use Rattle.std.specs.Prelude.{◌≡◌, ◌⊎◌, ℕ, ◌<◌, ◌≤◌, nat_eq, ◌&&◌, ◌||◌, List, [], ◌∷◌, length, map, Option, Some, None, Result, Ok, Err, Bool, true, false, Vec}
use Rattle.std.specs.List.{list_any}
use Rattle.std.specs.Map.{keys_of, lookup}
use Rattle.std.specs.declared.alloc.Global.{Global}
use Rattle.byteorder.specs.Endian.{big_number}
use Rattle.roam_cells.specs.declared.faults.Fault.{Fault}
use Rattle.roam_cells.specs.declared.faults.Fault.TheVariants.{OutOfMemory, NoPane, Busy, BadDatagram, Spent}
use Rattle.roam_cells.specs.declared.faults.Reason.{Reason}
use Rattle.roam_screens.specs.Screenshot.{Screenshot}
use Rattle.roam_sync.specs.Senders.{Sending}
use Rattle.roam_wire.specs.declared.versions.Version.{Version}
use Rattle.roam_wire.specs.declared.versions.Version.TheVariants.{Two}
use Rattle.roam_wire.specs.Datagrams.{DatagramValue, datagram_text}
use Rattle.roam_wire.specs.Headers.{header_at}
use Rattle.roam_wire.specs.Gatherers.{Gathering}
use Rattle.roam_wire.specs.Instructions.{UpValue}
use Rattle.roam_session.specs.Sessions.{Given, Drained}
use Rattle.roam_session.specs.Refusals.{refuses_bytes, output_at}
use Rattle.roam_session.specs.Stands.{SessionView, Stands as SessionStands}
use Rattle.roam_model.specs.Moments.{is_spent}
use Rattle.roam_model.specs.Numbers.{cut_of, screen}
use Rattle.roam_model.specs.Texts.{Address, is_watching, SaysUp, SaysNoUp}
use Rattle.roam_model.specs.Servers.{Record, no_record, Server, moment, after_input}
use Rattle.roam_model.specs.ServerArrivals.{coming, after_note, new_acts, after_acts, room_for}
use Rattle.roam_model.specs.Arrival.{turned_away, noted, completed}
use Rattle.roam_model.specs.Ticks.{makes, number_after, screen_to, is_offered, sends, Parcel, sent_by, is_tick_spent, after_tick}
use Rattle.roam_model.specs.Laws.{IsSameBut}
use Rattle.roam_hub.specs.Clients.{IsTextOf, IsNoDatagram}
use Rattle.roam_cells.specs.declared.addresses.Addr.{Addr}
use Rattle.roam_hub.specs.declared.addresses.Stop.{Stop}

-- ---- the model of a server

-- the value of a record for contracts: the parts of the definitions without its history, and how many instructions were sent to it
pub record RecordView : Type 0 where
  pub version : Version
  pub watches : Bool
  pub gathering : Gathering
  pub taken : ℕ
  pub sender : Sending Screenshot
  pub heard_at : ℕ
  pub latest : ℕ
  pub address : Address
  pub owed : Option ℕ
  pub datagrams : ℕ
  pub instructions : ℕ

-- the kept part of a record
abbrev pub kept_of : Record → RecordView
kept_of r =
    record {
      version = r.version;
      watches = r.watches;
      gathering = r.gathering;
      taken = r.taken;
      sender = r.sender;
      heard_at = r.heard_at;
      latest = r.latest;
      address = r.address;
      owed = r.owed;
      datagrams = r.datagrams;
      instructions = length r.instructions;
    }

-- the value of a server for contracts: its session, how many numbers were made, the screen and the moment of the newest, whether an input
-- came since, and the records by their ids in the order of arrival
pub record ServerView : Type 0 where
  pub session : ℕ
  pub state : SessionView
  pub made : ℕ
  pub screen : Screenshot
  pub made_at : ℕ
  pub input : Bool
  pub clock : ℕ
  pub records : List (ℕ × RecordView)

-- a record that is known, of which this is kept
pub record IsKept (v : RecordView) (r : Record) : Type 0 where
  pub known : r.known ≡ true
  pub kept : v ≡ kept_of r

-- each of these is kept of the record of its id
abbrev pub AreKept : List (ℕ × RecordView) → (ℕ → Record) → Type 0
AreKept [] records = Unit {0}
AreKept (e ∷ es) records = IsKept e.1 (records e.0) × AreKept es records

-- the newest number is a place in the log
abbrev pub IsCut : Server → Type 0
IsCut s = cut_of s.cuts (length s.cuts) ≤ length s.log

-- a server of the code models a server of the definitions: it has its kept part
pub record Stands (v : ServerView) (s : Server) : Type 0 where
  pub session : v.session ≡ s.session
  pub log : SessionStands v.state s.size s.log
  pub made : v.made ≡ length s.cuts
  pub cut : IsCut s
  pub screen : v.screen ≡ screen Two s.size s.log s.cuts (length s.cuts)
  pub made_at : v.made_at ≡ s.made_at
  pub input : v.input ≡ s.input
  pub clock : v.clock ≡ s.clock
  pub arrival : keys_of v.records ≡ s.arrival
  pub records : AreKept v.records s.records
  pub others : (id : ℕ) → lookup (nat_eq id) v.records ≡ None → s.records id ≡ no_record

-- ---- what its calls do

-- bytes come from a pane's program: refused by the session, or taken
pub data Feeds (s : Server) (pane : ℕ) (bytes : List ℕ) (result : Result (Unit {0}) Fault) (new : ServerView) : Type 0 where
  refused : (fault : Fault) → refuses_bytes s.size s.log pane bytes ≡ Some fault → result ≡ Err fault → Stands new s
      → Feeds s pane bytes result new
  taken : refuses_bytes s.size s.log pane bytes ≡ None → result ≡ Ok tt → Stands new (after_input s (Given pane bytes))
      → Feeds s pane bytes result new

-- bytes go to a pane's program: there is no such pane, or they go
pub data Drains (s : Server) (pane n : ℕ) (result : Result (Unit {0}) Fault) (new : ServerView) : Type 0 where
  no_pane : output_at s.size s.log pane ≡ None → result ≡ Err NoPane → Stands new s → Drains s pane n result new
  gone : (output : List ℕ) → output_at s.size s.log pane ≡ Some output → n ≤ length output → result ≡ Ok tt
      → Stands new (after_input s (Drained pane n)) → Drains s pane n result new

-- the address of a socket's address
abbrev pub address_of : Addr → Address
address_of a = record { host = big_number 4 a.host; port = a.port }

-- a refusal after so many acts
abbrev pub stop_after : Fault → ℕ → Result ℕ Stop
stop_after fault n = Err (record { fault = fault; taken = n })

-- Bytes come: they are no datagram; it is refused; it completes no instruction; its instruction is invalid; all its new acts are taken; one
-- finds its queue full; memory is refused at one, or anywhere else.
pub data Comes (s : Server) (from : Address) (bytes : List ℕ) (now : ℕ) (result : Result ℕ Stop) (new : ServerView) : Type 0 where
  no_datagram : (why : Reason) → IsNoDatagram bytes why → result ≡ stop_after (BadDatagram why) 0 → Stands new s
      → Comes s from bytes now result new
  refused : (d : DatagramValue) (fault : Fault) → IsTextOf bytes d → coming s d ≡ turned_away fault
      → result ≡ stop_after fault 0 → Stands new s → Comes s from bytes now result new
  fragment : (d : DatagramValue) (g : Gathering) → IsTextOf bytes d → coming s d ≡ noted tt g
      → result ≡ Ok 0 → Stands new (after_note s d from (moment s now) g) → Comes s from bytes now result new
  unread : (d : DatagramValue) (g : Gathering) (text : List ℕ) (why : Reason) → IsTextOf bytes d
      → coming s d ≡ completed g text → SaysNoUp (is_watching d.kind) text why
      → result ≡ stop_after (BadDatagram why) 0 → Stands new s → Comes s from bytes now result new
  all_taken : (d : DatagramValue) (g : Gathering) (text : List ℕ) (u : UpValue) → IsTextOf bytes d
      → coming s d ≡ completed g text → SaysUp (is_watching d.kind) text u → room_for s d u ≡ length (new_acts s d u)
      → result ≡ Ok (length (new_acts s d u))
      → Stands new (after_acts s d from (moment s now) g u (length (new_acts s d u))) → Comes s from bytes now result new
  no_room : (d : DatagramValue) (g : Gathering) (text : List ℕ) (u : UpValue) → IsTextOf bytes d
      → coming s d ≡ completed g text → SaysUp (is_watching d.kind) text u → room_for s d u < length (new_acts s d u)
      → result ≡ stop_after Busy (room_for s d u)
      → Stands new (after_acts s d from (moment s now) (s.records d.client).gathering u (room_for s d u))
      → Comes s from bytes now result new
  no_memory_at_act : (d : DatagramValue) (g : Gathering) (text : List ℕ) (u : UpValue) (n : ℕ) → IsTextOf bytes d
      → coming s d ≡ completed g text → SaysUp (is_watching d.kind) text u → n < room_for s d u
      → result ≡ stop_after OutOfMemory n
      → Stands new (after_acts s d from (moment s now) (s.records d.client).gathering u n) → Comes s from bytes now result new
  no_memory : (d : DatagramValue) → IsTextOf bytes d → result ≡ stop_after OutOfMemory 0 → Stands new s
      → Comes s from bytes now result new

-- the bytes have the kind of a datagram from a read-only instance, whatever else they are
abbrev pub ComesFromWatcher : List ℕ → Type 0
ComesFromWatcher bytes = (header_at bytes).kind ≡ 3

-- how many acts were taken
abbrev pub taken_in : Result ℕ Stop → ℕ
taken_in (Ok n) = n
taken_in (Err stop) = stop.taken

-- no act is taken, and the server stays, but for its moments and the record of the instance whose id is in the bytes
pub record TakesNothing (s : Server) (bytes : List ℕ) (result : Result ℕ Stop) (new : ServerView) : Type 0 where
  pub none : taken_in result ≡ 0
  pub left : Server
  pub stands : Stands new left
  pub same : IsSameBut (header_at bytes).client s left

-- a refusal that may have come at an act
abbrev pub IsStopAtAct : Stop → Type 0
IsStopAtAct stop = (stop.fault ≡ OutOfMemory) ⊎ (stop.fault ≡ Busy)

-- ---- a tick

-- the addresses and texts of datagrams
abbrev pub parcels_of : List (Addr × Vec ℕ Global) → List (Address × List ℕ)
parcels_of all = map (λ p. (address_of p.0, p.1.items)) all

abbrev pub parcel_text : Parcel → Address × List ℕ
parcel_text p = (p.to, datagram_text p.datagram)

-- a tick offers the newest number to the record of an instance, or sends something to it
abbrev pub is_touched : Server → ℕ → ℕ → Bool
is_touched s now id =
    is_offered (s.records id) (number_after s now) now || sends (s.records id) (number_after s now) (screen_to s now id) now

-- a tick makes a number, or touches a record
abbrev pub is_server_due : Server → ℕ → Bool
is_server_due s now = makes s now || list_any (is_touched s now) s.arrival

-- a record is sent to, and as many of its acts were taken as no number can say
abbrev pub is_ack_spent : Server → ℕ → ℕ → Bool
is_ack_spent s now id = sends (s.records id) (number_after s now) (screen_to s now id) now && is_spent (s.records id).taken

-- a number that a tick needs would be past the last
abbrev pub is_number_spent : Server → ℕ → Bool
is_number_spent s now = is_tick_spent s now || list_any (is_ack_spent s now) s.arrival

-- A tick: numbers are spent; the datagrams are answered in their order, each with its address; or memory is wanting.
pub data Ticks (s : Server) (now : ℕ) (result : Result (Vec (Addr × Vec ℕ Global) Global) Fault) (new : ServerView) : Type 0 where
  spent : is_number_spent s (moment s now) ≡ true → result ≡ Err Spent → Stands new s → Ticks s now result new
  ticked : (all : Vec (Addr × Vec ℕ Global) Global) → is_number_spent s (moment s now) ≡ false
      → result ≡ Ok all → parcels_of all.items ≡ map parcel_text (sent_by s (moment s now))
      → Stands new (after_tick s (moment s now)) → Ticks s now result new
  no_memory : is_server_due s (moment s now) ≡ true → (makes s (moment s now) && is_spent (number_after s (moment s now))) ≡ false
      → result ≡ Err OutOfMemory → Stands new s → Ticks s now result new
