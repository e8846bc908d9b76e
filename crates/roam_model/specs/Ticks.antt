-- A tick of the server.
use Rattle.std.specs.Prelude.{ℕ, ◌+◌, List, [], ◌∷◌, ◌++◌, length, map, None, Bool, false, ◌&&◌, ◌||◌, nat_lt, ◌==◌, if◌then◌else◌}
use Rattle.std.specs.List.{flat_map, list_any}
use Rattle.roam_sync.specs.Limits.{most_held}
use Rattle.roam_screens.specs.Screenshot.{Screenshot}
use Rattle.roam_sync.specs.Senders.{Sending, newest, count, offered, sent_at, is_due}
use Rattle.roam_wire.specs.Cutting.{fragments_of}
use Rattle.roam_wire.specs.Instructions.{DownValue, down_text}
use Rattle.roam_model.specs.Versions.{difference_by}
use Rattle.roam_model.specs.Numbers.{screen}
use Rattle.roam_model.specs.Moments.{has_passed, is_overdue, is_spent, frame_interval, forget_after}
use Rattle.roam_model.specs.Texts.{Address, datagrams_of}
use Rattle.roam_model.specs.Servers.{Record, Server}
use Rattle.roam_wire.specs.declared.datagrams.Kind.TheVariants.{ToClient}
use Rattle.roam_wire.specs.Datagrams.{DatagramValue}
use Rattle.roam_wire.specs.declared.versions.Version.{Version}

-- ---- the number

-- a number is made if none was made yet, or if an input came since the last was made and 20 ms passed
abbrev pub makes : Server → ℕ → Bool
makes s now = length s.cuts == 0 || (s.input && has_passed frame_interval s.made_at now)

abbrev pub cuts_after : Server → ℕ → List ℕ
cuts_after s now = if makes s now then s.cuts ++ length s.log ∷ [] else s.cuts

-- the newest number then, and its screen
abbrev pub number_after : Server → ℕ → ℕ
number_after s now = length (cuts_after s now)

abbrev pub screen_after : Server → Version → ℕ → Screenshot
screen_after s v now = screen v s.size s.log (cuts_after s now) (number_after s now)

-- ---- its effect on one record, with s as the screen of the newest number n in its version

-- it was heard less than 60,000 ms ago
abbrev pub is_live : Record → ℕ → Bool
is_live r now = r.known && nat_lt now (r.heard_at + forget_after)

-- the newest number is offered to it: it is above the sender's newest, and there are fewer than eight
abbrev pub is_offered : Record → ℕ → ℕ → Bool
is_offered r n now = is_live r now && nat_lt (newest r.sender).number n && nat_lt (count r.sender) most_held

-- the states of its sender then
unfoldable pub holds_after : Record → ℕ → Screenshot → ℕ → Sending Screenshot
holds_after r n s now = if is_offered r n now then offered r.sender n s else r.sender

-- it is sent to: its sender is due, or an answer is overdue
unfoldable pub sends : Record → ℕ → Screenshot → ℕ → Bool
sends r n s now = is_live r now && (is_due (holds_after r n s now) now || is_overdue r.owed now)

-- the instruction of a sender: the diff from its base to its newest, and how many acts were taken
abbrev pub down_from : Version → Sending Screenshot → ℕ → DownValue
down_from v s taken =
    record {
      old = s.base.number;
      new = (newest s).number;
      floor = s.base.number;
      acked = taken;
      change = difference_by v s.base.state (newest s).state;
    }

-- the instruction to a record, and the fragments of its text
abbrev pub down_to : Record → ℕ → Screenshot → ℕ → DownValue
down_to r n s now = down_from r.version (holds_after r n s now) r.taken

abbrev pub fragments_to : Record → ℕ → Screenshot → ℕ → List (List ℕ)
fragments_to r n s now = fragments_of (down_text (down_to r n s now))

-- a record that is sent to
abbrev pub after_sent : Record → ℕ → Screenshot → ℕ → Record
after_sent r n s now =
    record r {
      sender = sent_at (holds_after r n s now) now;
      owed = None;
      datagrams = r.datagrams + length (fragments_to r n s now);
      instructions = r.instructions ++ down_to r n s now ∷ [];
    }

-- a record after the tick
abbrev pub ticked_record : Record → ℕ → Screenshot → ℕ → Record
ticked_record r n s now = if sends r n s now then after_sent r n s now else record r { sender = holds_after r n s now }

-- the datagrams to the record of a client instance
abbrev pub datagrams_to : ℕ → ℕ → Record → ℕ → Screenshot → ℕ → List DatagramValue
datagrams_to session id r n s now =
    if sends r n s now then datagrams_of r.version ToClient session id r.datagrams (length r.instructions + 1) (fragments_to r n s now)
    else []

-- a number that sending to it needs would be past the last
abbrev pub is_record_spent : Record → ℕ → Screenshot → ℕ → Bool
is_record_spent r n s now =
    sends r n s now && (is_spent (length r.instructions + 1) || is_spent (r.datagrams + length (fragments_to r n s now)))

-- ---- the whole tick

-- the screen of the newest number for the record of a client instance
abbrev pub screen_to : Server → ℕ → ℕ → Screenshot
screen_to s now id = screen_after s (s.records id).version now

-- a datagram, and its address
pub record Parcel : Type 0 where
  pub to : Address
  pub datagram : DatagramValue

abbrev pub parcel : Address → DatagramValue → Parcel
parcel to d = record { to = to; datagram = d }

-- the datagrams to a client instance, each to its address
abbrev pub parcels_to : Server → ℕ → ℕ → List Parcel
parcels_to s now id =
    map (parcel (s.records id).address) (datagrams_to s.session id (s.records id) (number_after s now) (screen_to s now id) now)

-- all that is sent, to one record after another in the order of arrival
abbrev pub sent_by : Server → ℕ → List Parcel
sent_by s now = flat_map (parcels_to s now) s.arrival

-- a number that it needs would be past the last
abbrev pub is_tick_spent : Server → ℕ → Bool
is_tick_spent s now =
    (makes s now && is_spent (number_after s now))
    || list_any (λ id. is_record_spent (s.records id) (number_after s now) (screen_to s now id) now) s.arrival

abbrev pub after_tick : Server → ℕ → Server
after_tick s now =
    record s {
      cuts = cuts_after s now;
      made_at = if makes s now then now else s.made_at;
      input = if makes s now then false else s.input;
      clock = now;
      records = λ id. ticked_record (s.records id) (number_after s now) (screen_to s now id) now;
    }
