-- A datagram comes to the server: its kind there, and its effect.
use Rattle.std.specs.Prelude.{ℕ, ◌+◌, suc, max, filter, List, [], ◌∷◌, ◌++◌, length, take, map, Option, Some, None, Bool, true, false, not, ◌&&◌, ◌||◌, nat_le, nat_lt, ◌==◌, if◌then◌else◌}
use Rattle.roam_cells.specs.declared.faults.Fault.TheVariants.{BadDatagram, OtherSession, ClientsFull}
use Rattle.roam_cells.specs.declared.faults.Reason.TheVariants.{Fragment}
use Rattle.roam_cells.specs.declared.faults.Reason.TheVariants as reason
use Rattle.roam_acts.specs.declared.acts.Act.{Act}
use Rattle.roam_acts.specs.Takers.{fresh_of}
use Rattle.roam_sync.specs.Senders.{acked}
use Rattle.roam_wire.specs.Gatherers.{Gathering, Answer, Part, Old, Whole, gather, fragment_of}
use Rattle.roam_wire.specs.Instructions.{UpValue}
use Rattle.roam_session.specs.Sessions.{SessionSize, Entry, Did}
use Rattle.roam_session.specs.Refusals.{stops}
use Rattle.roam_model.specs.Arrival.{Arrival, turned_away, noted, completed}
use Rattle.roam_model.specs.Lists.{with_value}
use Rattle.roam_model.specs.Moments.{owed_from}
use Rattle.roam_model.specs.Texts.{Address, is_to_server, is_watching}
use Rattle.roam_model.specs.Versions.{is_same_version}
use Rattle.roam_model.specs.Servers.{Record, Server}
use Rattle.roam_wire.specs.Datagrams.{DatagramValue}

-- by the result of the gatherer
abbrev pub coming_gathered : Option (Answer × Gathering) → Arrival (Unit {0})
coming_gathered None = turned_away (BadDatagram Fragment)
coming_gathered (Some (Part, g)) = noted tt g
coming_gathered (Some (Old, g)) = noted tt g
coming_gathered (Some (Whole text, g)) = completed g text

abbrev pub is_same : Bool → Bool → Bool
is_same true b = b
is_same false b = not b

-- so many instances that only watch, or so many others, are known at most
abbrev pub most_of : Bool → ℕ
most_of watches = if watches then 16 else 64

-- those of them, of a list, that only watch, or the others
abbrev pub alike_in : (ℕ → Record) → Bool → List ℕ → List ℕ
alike_in records watches ids = filter (λ id. is_same (records id).watches watches) ids

-- the known instances that only watch, or the others
abbrev pub alike : Server → Bool → List ℕ
alike s watches = alike_in s.records watches s.arrival

-- the instance isn't known, and as many as may be are that watch, or don't, as it does
abbrev pub is_full_for : Server → DatagramValue → Bool
is_full_for s d =
    not (s.records d.client).known && nat_le (most_of (is_watching d.kind)) (length (alike s (is_watching d.kind)))

-- its record is one of another version
abbrev pub is_of_other : Server → DatagramValue → Bool
is_of_other s d = (s.records d.client).known && not (is_same_version (s.records d.client).version d.version)

-- its record is one of an instance that watches, and it doesn't come from one, or the other way round
abbrev pub is_else : Server → DatagramValue → Bool
is_else s d = (s.records d.client).known && not (is_same (s.records d.client).watches (is_watching d.kind))

-- in this order: its direction, its session, room for one more record or the version and the kind of the one that is there, its fragment
abbrev pub coming : Server → DatagramValue → Arrival (Unit {0})
coming s d =
    if not (is_to_server d.kind) then turned_away (BadDatagram reason.Kind)
    else if not (d.session == s.session) then turned_away OtherSession
    else if is_full_for s d then turned_away ClientsFull
    else if is_of_other s d then turned_away (BadDatagram reason.Version)
    else if is_else s d then turned_away (BadDatagram reason.Kind)
    else coming_gathered (gather (s.records d.client).gathering (fragment_of d))

-- ---- its effect

-- the record of its client instance: it was heard now, from there, and this is gathered then
abbrev pub heard_from : Record → DatagramValue → Address → ℕ → Gathering → Record
heard_from r d from now g =
    record r {
      known = true;
      version = d.version;
      watches = is_watching d.kind;
      gathering = g;
      heard_at = now;
      latest = max r.latest d.number;
      address = if nat_lt r.latest d.number then from else r.address;
      notes = r.notes ++ record { number = d.number; source = from } ∷ [];
    }

-- and with an instruction: the acknowledged number goes to the sender, n of its acts are taken, and acts make an answer owed
abbrev pub informed_from : Record → DatagramValue → Address → ℕ → Gathering → UpValue → ℕ → Record
informed_from r d from now g u n =
    record (heard_from r d from now g) {
      taken = r.taken + n;
      sender = acked r.sender u.acked;
      owed = if length u.acts == 0 then r.owed else owed_from r.owed now;
    }

-- a new record comes last
abbrev pub arrival_with : Server → ℕ → List ℕ
arrival_with s id = if (s.records id).known then s.arrival else s.arrival ++ id ∷ []

-- after a datagram that made no instruction whole
abbrev pub after_note : Server → DatagramValue → Address → ℕ → Gathering → Server
after_note s d from now g =
    record s {
      clock = now;
      records = with_value s.records d.client (heard_from (s.records d.client) d from now g);
      arrival = arrival_with s d.client;
    }

-- the acts of an instruction that weren't taken yet
abbrev pub new_acts : Server → DatagramValue → UpValue → List Act
new_acts s d u = fresh_of (s.records d.client).taken u.first u.acts

-- how many acts find room in the queues, one after another: those before the first that stops
abbrev pub reach : SessionSize → List Entry → ℕ → List Act → ℕ
reach size log id [] = 0
reach size log id (act ∷ acts) = if stops size log act then 0 else suc (reach size (log ++ Did id act ∷ []) id acts)

abbrev pub room_for : Server → DatagramValue → UpValue → ℕ
room_for s d u = reach s.size s.log d.client (new_acts s d u)

-- after an instruction of which n new acts are done in their order, and this is gathered then
abbrev pub after_acts : Server → DatagramValue → Address → ℕ → Gathering → UpValue → ℕ → Server
after_acts s d from now g u n =
    record s {
      log = s.log ++ map (Did d.client) (take n (new_acts s d u));
      input = s.input || nat_lt 0 n;
      clock = now;
      records = with_value s.records d.client (informed_from (s.records d.client) d from now g u n);
      arrival = arrival_with s d.client;
    }
