-- The server's record of a client instance, and the effects of its calls.
use Rattle.std.specs.Prelude.{◌≡◌, ℕ, Result, Ok, Err, ◌+◌, ◌%◌, ◌^◌, ◌<◌, ◌≤◌, max, nat_lt, nat_eq, ◌==◌, ◌&&◌, ◌||◌, List, [], ◌∷◌, ◌++◌, length, take, map, is_some, Option, Some, None, Bool, true, if◌then◌else◌, filter, false}
use Rattle.std.specs.List.{flat_map, list_any}
use Rattle.std.specs.Map.{lookup, set_value}
use Rattle.roam_acts.specs.Limits.{number_limit}
use Rattle.roam_cells.specs.declared.faults.Fault.{Fault}
use Rattle.roam_cells.specs.declared.faults.Fault.TheVariants.{OutOfMemory, Busy, BadDatagram, ClientsFull}
use Rattle.roam_cells.specs.declared.faults.Reason.{Reason}
use Rattle.roam_cells.specs.declared.faults.Reason.TheVariants.{Fragment}
use Rattle.roam_cells.specs.declared.faults.Reason.TheVariants as reason
use Rattle.roam_screens.specs.Screenshot.{Screenshot, IsScreenshot}
use Rattle.roam_acts.specs.declared.acts.Act.{Act}
use Rattle.roam_acts.specs.Takers.{fresh_of}
use Rattle.roam_sync.specs.Senders.{acked, sent_at, is_due, withdrawn}
use Rattle.roam_wire.specs.declared.datagrams.Kind.TheVariants.{ToClient}
use Rattle.roam_wire.specs.declared.versions.Version.{Version}
use Rattle.roam_wire.specs.Datagrams.{DatagramValue, datagram_text}
use Rattle.roam_wire.specs.Gatherers.{Gathering, gather, fragment_of}
use Rattle.roam_wire.specs.Instructions.{UpValue, down_text}
use Rattle.roam_wire.specs.Cutting.{fragments_of}
use Rattle.roam_session.specs.Sessions.{SessionSize, Entry, Did}
use Rattle.roam_session.specs.Stands.{SessionView, Stands as SessionStands, keeping}
use Rattle.roam_model.specs.Moments.{has_passed, is_overdue, owed_from, is_spent, frame_interval}
use Rattle.roam_model.specs.Texts.{Address, is_watching, SaysUp, SaysNoUp, datagrams_of}
use Rattle.roam_model.specs.Versions.{is_same_version, seen_by}
use Rattle.roam_model.specs.Servers.{Record, no_record}
use Rattle.roam_model.specs.ServerArrivals.{coming_gathered, reach, is_same, most_of}
use Rattle.roam_model.specs.Arrival.{noted, completed}
use Rattle.roam_model.specs.Ticks.{is_live, holds_after, down_from}
use Rattle.roam_hub.specs.Servers.{RecordView, ServerView, kept_of, stop_after}
use Rattle.roam_hub.specs.declared.addresses.Stop.{Stop}
use Rattle.roam_hub.specs.declared.taking.Taking.{Taking}

-- a record of the definitions with the kept part and no histories
abbrev pub bare : RecordView → Record
bare v =
    record {
      known = true;
      version = v.version;
      watches = v.watches;
      gathering = v.gathering;
      taken = v.taken;
      sender = v.sender;
      heard_at = v.heard_at;
      latest = v.latest;
      address = v.address;
      notes = [];
      owed = v.owed;
      datagrams = v.datagrams;
      instructions = [];
    }

-- ---- a datagram

-- the record of an instance of a version, which may only watch, from which nothing came
abbrev pub first_record : Version → Bool → RecordView
first_record version watches = record (kept_of no_record) { version = version; watches = watches }

-- a datagram is of the version and the kind of its instance's first one
pub record Fits (version : Version) (watches : Bool) (d : DatagramValue) : Type 0 where
  pub version_is : is_same_version version d.version ≡ true
  pub watches_is : is_same watches (is_watching d.kind) ≡ true

-- it is of another version, or of that version and another kind
pub data IsOther (version : Version) (watches : Bool) (d : DatagramValue) (fault : Fault) : Type 0 where
  another_version : is_same_version version d.version ≡ false → fault ≡ BadDatagram reason.Version → IsOther version watches d fault
  another_kind : is_same_version version d.version ≡ true → is_same watches (is_watching d.kind) ≡ false
      → fault ≡ BadDatagram reason.Kind → IsOther version watches d fault

-- so many acts were taken, and why no more were
abbrev pub taking : ℕ → Option Fault → Taking
taking n stop = record { taken = n; stopped = stop }

-- the result if so many acts were taken
abbrev pub answer_with : ℕ → Option Fault → Result ℕ Stop
answer_with n None = Ok n
answer_with n (Some fault) = stop_after fault n

-- the result for a datagram, by its acts
abbrev pub answer_to_datagram : Result Taking Fault → Result ℕ Stop
answer_to_datagram (Ok t) = answer_with t.taken t.stopped
answer_to_datagram (Err fault) = stop_after fault 0

-- Acts are done one after another: all of them; those before the first that finds its queue full; or those before one for which memory is
-- refused.
pub data TakesActs (size : SessionSize) (log : List Entry) (id : ℕ) (acts : List Act) (t : Taking) (new : SessionView) : Type 0 where
  all : reach size log id acts ≡ length acts → t ≡ taking (length acts) None
      → SessionStands new size (log ++ map (Did id) acts) → TakesActs size log id acts t new
  full : reach size log id acts < length acts → t ≡ taking (reach size log id acts) (Some Busy)
      → SessionStands new size (log ++ map (Did id) (take (reach size log id acts) acts)) → TakesActs size log id acts t new
  no_memory : (n : ℕ) → n < reach size log id acts → t ≡ taking n (Some OutOfMemory)
      → SessionStands new size (log ++ map (Did id) (take n acts)) → TakesActs size log id acts t new

-- a datagram was heard now from there, and this is gathered then
abbrev pub heard_by : RecordView → DatagramValue → Address → ℕ → Gathering → RecordView
heard_by v d from now g =
    record v {
      gathering = g;
      heard_at = now;
      latest = max v.latest d.number;
      address = if nat_lt v.latest d.number then from else v.address;
    }

-- and it brought an instruction of which n acts were taken
abbrev pub informed_by : RecordView → DatagramValue → Address → ℕ → Gathering → UpValue → ℕ → RecordView
informed_by v d from now g u n =
    record (heard_by v d from now g) {
      taken = v.taken + n;
      sender = acked v.sender u.acked;
      owed = if length u.acts == 0 then v.owed else owed_from v.owed now;
    }

-- A datagram is noted in a record: it completes no instruction, or its instruction's new acts are done; after a stop the gathered fragments
-- are those before.
pub data Notes (old : RecordView) (before : SessionView) (d : DatagramValue) (from : Address) (now : ℕ) (t : Taking) (new : RecordView)
    (after : SessionView) : Type 0 where
  fragment : (g : Gathering) → coming_gathered (gather old.gathering (fragment_of d)) ≡ noted tt g → t ≡ taking 0 None
      → new ≡ heard_by old d from now g → after ≡ before → Notes old before d from now t new after
  instruction : (g : Gathering) (text : List ℕ) (u : UpValue) → coming_gathered (gather old.gathering (fragment_of d)) ≡ completed g text
      → SaysUp (is_watching d.kind) text u → new ≡ informed_by old d from now (if is_some t.stopped then old.gathering else g) u t.taken
      → ((size : SessionSize) (log : List Entry) → SessionStands before size log
      → TakesActs size log d.client (fresh_of old.taken u.first u.acts) t after) → Notes old before d from now t new after

-- the reasons for which nothing is noted: it is no fragment of the gathered instruction; its instruction is invalid; or memory is refused
pub data NotNoted (old : RecordView) (d : DatagramValue) (fault : Fault) : Type 0 where
  no_fragment : gather old.gathering (fragment_of d) ≡ None → fault ≡ BadDatagram Fragment → NotNoted old d fault
  unread : (g : Gathering) (text : List ℕ) (why : Reason) → coming_gathered (gather old.gathering (fragment_of d)) ≡ completed g text
      → SaysNoUp (is_watching d.kind) text why → fault ≡ BadDatagram why → NotNoted old d fault
  no_memory : fault ≡ OutOfMemory → NotNoted old d fault

-- why a record doesn't hear it: it isn't of its version and kind; or nothing is noted
pub data NotHeard (old : RecordView) (d : DatagramValue) (fault : Fault) : Type 0 where
  other : IsOther old.version old.watches d fault → NotHeard old d fault
  fitting : Fits old.version old.watches d → NotNoted old d fault → NotHeard old d fault

-- the records of instances that only watch, or the others
abbrev pub alike_entries : Bool → List (ℕ × RecordView) → List (ℕ × RecordView)
alike_entries watches es = filter (λ e. is_same e.1.watches watches) es

-- how many acts were taken of these instances, added to n, modulo 2^64
unfoldable pub acts_after : ℕ → List (ℕ × RecordView) → ℕ
acts_after n [] = n
acts_after n (e ∷ es) = acts_after ((n + e.1.taken) % 2 ^ 64) es

-- The record of a datagram's instance changes: it was there, of the datagram's version and kind; or it is new, and there is room for it.
pub data Puts (d : DatagramValue) (old new : List (ℕ × RecordView)) (v w : RecordView) : Type 0 where
  known : lookup (nat_eq d.client) old ≡ Some v → Fits v.version v.watches d → new ≡ set_value (nat_eq d.client) old w → Puts d old new v w
  added : lookup (nat_eq d.client) old ≡ None → length (alike_entries (is_watching d.kind) old) < most_of (is_watching d.kind)
      → v ≡ kept_of no_record → new ≡ old ++ (d.client, w) ∷ [] → Puts d old new v w

-- a record with the version and the kind of a datagram
abbrev pub fitted_record : RecordView → DatagramValue → RecordView
fitted_record v d = record v { version = d.version; watches = is_watching d.kind }

-- a datagram is noted in the record of its client instance
pub record NotesIn (old : List (ℕ × RecordView)) (before : SessionView) (d : DatagramValue) (from : Address) (now : ℕ) (t : Taking)
    (new : List (ℕ × RecordView)) (after : SessionView) : Type 0 where
  pub was : RecordView
  pub is : RecordView
  pub puts : Puts d old new was is
  pub notes : Notes (fitted_record was d) before d from now t is after

-- the kept part of the record of an id, or that nothing came
abbrev pub entry_of : Option RecordView → RecordView
entry_of None = kept_of no_record
entry_of (Some v) = v

-- the reasons for which nothing is noted in any record: there is no room for one more; the one that is there is of another version or kind;
-- or nothing is noted in that of the client instance
pub data NotNotedIn (old : List (ℕ × RecordView)) (d : DatagramValue) (fault : Fault) : Type 0 where
  full : lookup (nat_eq d.client) old ≡ None → most_of (is_watching d.kind) ≤ length (alike_entries (is_watching d.kind) old)
      → fault ≡ ClientsFull → NotNotedIn old d fault
  differs : (v : RecordView) → lookup (nat_eq d.client) old ≡ Some v → IsOther v.version v.watches d fault → NotNotedIn old d fault
  room : (lookup (nat_eq d.client) old ≡ None → length (alike_entries (is_watching d.kind) old) < most_of (is_watching d.kind))
      → ((v : RecordView) → lookup (nat_eq d.client) old ≡ Some v → Fits v.version v.watches d)
      → NotNoted (entry_of (lookup (nat_eq d.client) old)) d fault → NotNotedIn old d fault
  no_memory : fault ≡ OutOfMemory → NotNotedIn old d fault

-- ---- a tick

-- the fragments of the instruction that its sender would send
abbrev pub fragments_due : RecordView → List (List ℕ)
fragments_due v = fragments_of (down_text (down_from v.version v.sender v.taken))

-- a number that sending it needs would be past the last
abbrev pub is_instruction_spent : RecordView → Bool
is_instruction_spent v = is_spent (v.instructions + 1) || is_spent (v.datagrams + length (fragments_due v)) || is_spent v.taken

-- it is sent to: it was heard of late, and its sender is due or an answer is overdue
abbrev pub is_sent_to : RecordView → ℕ → Bool
is_sent_to v now = is_live (bare v) now && (is_due v.sender now || is_overdue v.owed now)

-- how many datagrams go to it
abbrev pub fragments_sent : RecordView → ℕ → Option ℕ
fragments_sent v now = if is_sent_to v now then Some (length (fragments_due v)) else None

-- the datagrams of that instruction, for the instance of an id
abbrev pub datagrams_for : ℕ → ℕ × RecordView → List DatagramValue
datagrams_for session e = datagrams_of e.1.version ToClient session e.0 e.1.datagrams (e.1.instructions + 1) (fragments_due e.1)

-- their texts, each with its address
abbrev pub parcels_for : ℕ → ℕ → ℕ × RecordView → List (Address × List ℕ)
parcels_for session now e = if is_sent_to e.1 now then map (λ d. (e.1.address, datagram_text d)) (datagrams_for session e) else []

-- its kept part once so many datagrams were sent, or none
abbrev pub settled_with : RecordView → Option ℕ → ℕ → RecordView
settled_with v None now = v
settled_with v (Some k) now =
    record v { sender = sent_at v.sender now; owed = None; datagrams = v.datagrams + k; instructions = v.instructions + 1 }

-- there are numbers for so many more datagrams
abbrev pub HasNumbersFor : RecordView → Option ℕ → Type 0
HasNumbersFor v None = Unit {0}
HasNumbersFor v (Some k) = (v.datagrams + k < number_limit) × (v.instructions + 1 < number_limit)

-- its kept part after an offer is taken back
abbrev pub back_from : RecordView → Bool → RecordView
back_from v offered = if offered then record v { sender = withdrawn v.sender } else v

-- ---- a whole tick, with s as the screen of the newest number n

-- the states of a record then: the screen as its version shows it
abbrev pub held_record : RecordView → ℕ → Screenshot → ℕ → RecordView
held_record v n s now = record v { sender = holds_after (bare v) n (seen_by v.version s) now }

abbrev pub held_entry : ℕ → Screenshot → ℕ → ℕ × RecordView → ℕ × RecordView
held_entry n s now e = (e.0, held_record e.1 n s now)

-- the datagrams to its client instance
abbrev pub texts_for : ℕ → ℕ → Screenshot → ℕ → ℕ × RecordView → List (Address × List ℕ)
texts_for session n s now e = parcels_for session now (held_entry n s now e)

-- a number that this needs would be past the last
abbrev pub is_entry_spent : ℕ → Screenshot → ℕ → ℕ × RecordView → Bool
is_entry_spent n s now e = is_sent_to (held_record e.1 n s now) now && is_instruction_spent (held_record e.1 n s now)

-- its kept part after the tick
abbrev pub settled_entry : ℕ → Screenshot → ℕ → ℕ × RecordView → ℕ × RecordView
settled_entry n s now e = (e.0, settled_with (held_record e.1 n s now) (fragments_sent (held_record e.1 n s now) now) now)

-- whether a number is made at a moment
abbrev pub makes_at : ServerView → ℕ → Bool
makes_at v now = v.made == 0 || (v.input && has_passed frame_interval v.made_at now)

-- all that goes to client instances
abbrev pub sent_by_tick : ServerView → ℕ → Screenshot → ℕ → List (Address × List ℕ)
sent_by_tick v n s now = flat_map (texts_for v.session n s now) v.records

-- the server with the kept parts of its records then
abbrev pub ticked_by : ServerView → ℕ → Screenshot → ℕ → ServerView
ticked_by v n s now = record v { records = map (settled_entry n s now) v.records }

-- a number that one of its records needs would be past the last
abbrev pub is_any_spent : ServerView → ℕ → Screenshot → ℕ → Bool
is_any_spent v n s now = list_any (is_entry_spent n s now) v.records

-- the server once its session's face got the next number and all was sent: the face is kept, and no input came since
abbrev pub numbered_by : ServerView → Screenshot → ℕ → ServerView
numbered_by v face now =
    record (ticked_by v (v.made + 1) face now) {
      state = keeping face v.state;
      made = v.made + 1;
      screen = face;
      made_at = now;
      input = false;
      clock = now;
    }

-- a number that giving the face the next number needs would be past the last
abbrev pub is_numbering_spent : ServerView → Screenshot → ℕ → Bool
is_numbering_spent v face now = is_spent (v.made + 1) || is_any_spent v (v.made + 1) face now

-- the face of a session, a screen, got the next number, and these went to client instances
abbrev pub Numbers : ServerView → Screenshot → ℕ → List (Address × List ℕ) → ServerView → Type 0
Numbers v face now sent new =
    (sent ≡ sent_by_tick v (v.made + 1) face now) × (new ≡ numbered_by v face now) × IsScreenshot face
    × (is_any_spent v (v.made + 1) face now ≡ false) × (is_spent (v.made + 1) ≡ false)
