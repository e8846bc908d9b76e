-- Small histories, computed from the definitions.
use Rattle.std.proofs.Common.{◌≡◌, ℕ, List, [], ◌∷◌, true, false, refl}
use Rattle.std.specs.List.{range_with_len}
use Rattle.roam_cells.specs.declared.faults.Fault.TheVariants.{BadDatagram, OtherSession, OtherClient, ClientsFull}
use Rattle.roam_cells.specs.declared.faults.Reason.TheVariants as reason
use Rattle.roam_acts.specs.declared.acts.Act.{Act}
use Rattle.roam_acts.specs.declared.acts.Act.TheVariants.{Key, SplitRight, SplitDown, Close}
use Rattle.roam_keys.specs.declared.keys.Key.TheVariants.{Char}
use Rattle.roam_screens.specs.Screenshot.{Screenshot}
use Rattle.roam_sync.specs.declared.senders.Held.{Held}
use Rattle.roam_sync.specs.declared.receivers.Step.TheVariants as step
use Rattle.roam_sync.specs.Senders.{Sending, acked, offered, is_due}
use Rattle.roam_sync.specs.Receivers.{start, step_for}
use Rattle.roam_session.specs.Sessions.{SessionSize, Entry, Given, Did}
use Rattle.roam_session.specs.Refusals.{stops}
use Rattle.roam_acts.specs.Takers.{fresh_of}
use Rattle.roam_model.specs.Numbers.{acts_of}
use Rattle.roam_model.specs.Texts.{Address, datagram_with}
use Rattle.roam_model.specs.Servers.{Record, Server, no_record, new_server, after_input}
use Rattle.roam_model.specs.ServerArrivals.{coming, reach, is_full_for}
use Rattle.roam_model.specs.Arrival.{turned_away}
use Rattle.roam_model.specs.Ticks.{makes, cuts_after, is_live, is_offered, down_from}
use Rattle.roam_model.specs.Clients.{new_kept}
use Rattle.roam_model.specs.ClientArrivals.{arriving}
use Rattle.roam_model.specs.Laws.{greatest_from, no_note}
use Rattle.roam_wire.specs.declared.versions.Version.{Version}
use Rattle.roam_wire.specs.declared.versions.Version.TheVariants.{One, Two}
use Rattle.roam_wire.specs.declared.datagrams.Kind.{Kind}
use Rattle.roam_wire.specs.declared.datagrams.Kind.TheVariants.{ToClient, ToServer, FromWatcher}
use Rattle.roam_wire.specs.Datagrams.{DatagramValue}

-- a size of 4 rows and 17 columns
abbrev size : SessionSize
size = record { rows = 4; cols = 17 }

-- the only fragment of the first instruction of an instance
abbrev first_of : Version → Kind → ℕ → DatagramValue
first_of v kind client = datagram_with v kind 1 client 0 1 1 (0, 7 ∷ [])

-- ---- five layout commands are all taken, refused ones too, whatever the session is

five_are_taken : (log : List Entry) → reach size log 161 (SplitRight ∷ SplitRight ∷ SplitDown ∷ Close ∷ Close ∷ []) ≡ 5
unfolding stops
five_are_taken log = refl

-- ---- each act is taken once

abbrev a : Act
a = Key (Char 97)

abbrev b : Act
b = Key (Char 98)

abbrev c : Act
c = Key (Char 99)

-- both acts of the first instance are new, and none when they come again
both_new : fresh_of 0 1 (a ∷ b ∷ []) ≡ a ∷ b ∷ []
both_new = refl

none_again : fresh_of 2 1 (a ∷ b ∷ []) ≡ []
none_again = refl

-- a later instance's acts are its own
own_acts : acts_of 162 (Did 161 a ∷ Did 161 b ∷ Did 162 c ∷ []) ≡ c ∷ []
own_acts = refl

first_acts : acts_of 161 (Did 161 a ∷ Did 161 b ∷ Did 162 c ∷ []) ≡ a ∷ b ∷ []
first_acts = refl

-- datagrams to the first instance are nothing for the later one in its slot
other_start : arriving 1 162 (new_kept One false) (first_of One ToClient 161) ≡ turned_away OtherClient
other_start = refl

other_session : arriving 2 161 (new_kept One false) (first_of One ToClient 161) ≡ turned_away OtherSession
other_session = refl

wrong_way : arriving 1 161 (new_kept One false) (first_of One ToServer 161) ≡ turned_away (BadDatagram reason.Kind)
wrong_way = refl

-- nor are those to it in the other version
other_version : arriving 1 161 (new_kept One false) (first_of Two ToClient 161) ≡ turned_away (BadDatagram reason.Version)
other_version = refl

-- ---- a 65th instance, a 17th that only watches

abbrev full_server : Server
full_server = record (new_server 1 size) { arrival = range_with_len 1 64 }

too_many_starts : coming full_server (first_of One ToServer 65) ≡ turned_away ClientsFull
unfolding new_server no_record
too_many_starts = refl

-- there is room for one that only watches
room_to_watch : is_full_for full_server (first_of Two FromWatcher 65) ≡ false
unfolding new_server no_record
room_to_watch = refl

abbrev watched_server : Server
watched_server = record (new_server 1 size) { arrival = range_with_len 1 16; records = λ id. record no_record { watches = true } }

too_many_watch : coming watched_server (first_of Two FromWatcher 17) ≡ turned_away ClientsFull
unfolding new_server no_record
too_many_watch = refl

room_to_edit : is_full_for watched_server (first_of Two ToServer 17) ≡ false
unfolding new_server no_record
room_to_edit = refl

-- ---- a record keeps its version and its kind

abbrev known_server : Server
known_server = record (new_server 1 size) {
  arrival = 161 ∷ [];
  records = λ id. record no_record { known = true; version = Two };
}

other_version_there : coming known_server (first_of One ToServer 161) ≡ turned_away (BadDatagram reason.Version)
unfolding new_server no_record
other_version_there = refl

other_kind_there : coming known_server (first_of Two FromWatcher 161) ≡ turned_away (BadDatagram reason.Kind)
unfolding new_server no_record
other_kind_there = refl

-- ---- numbers are made 20 ms apart, if an input came

abbrev first_ticked : Server
first_ticked = record (new_server 1 size) { cuts = 0 ∷ []; made_at = 0 }

made_at_first : makes (new_server 1 size) 0 ≡ true
unfolding new_server
made_at_first = refl

none_without_input : makes first_ticked 3000 ≡ false
unfolding new_server
none_without_input = refl

none_within_20 : makes (after_input first_ticked (Given 1 (97 ∷ []))) 19 ≡ false
unfolding new_server
none_within_20 = refl

made_after_20 : cuts_after (after_input first_ticked (Given 1 (97 ∷ []))) 20 ≡ 0 ∷ 1 ∷ []
unfolding new_server
made_after_20 = refl

-- ---- roaming: the source of the greatest-numbered datagram, and not of the latest to come

abbrev at_port : ℕ → Address
at_port port = record { host = 2130706433; port = port }

latest_source : greatest_from no_note
    (record { number = 1; source = at_port 5001 } ∷ record { number = 2; source = at_port 6001 } ∷ record
    { number = 1; source = at_port 5001 } ∷ [])
    ≡ record { number = 2; source = at_port 6001 }
latest_source = refl

-- ---- an instance that wasn't heard for 60,000 ms is sent nothing

abbrev heard_at_5 : Record
heard_at_5 = record no_record { known = true; heard_at = 5 }

still_live : is_live heard_at_5 60004 ≡ true
still_live = refl

no_longer_live : is_live heard_at_5 60005 ≡ false
no_longer_live = refl

-- ---- two clients: the first never answers, so its sender has eight pairs at 120 ms; the second answered with 7

abbrev pair : ℕ → Screenshot → Held Screenshot
pair n s = record { number = n; state = s; sent = true }

abbrev eight_held : Screenshot → Sending Screenshot
eight_held s =
    record {
      base = pair 0 s;
      later = pair 1 s ∷ pair 2 s ∷ pair 3 s ∷ pair 4 s ∷ pair 5 s ∷ pair 6 s ∷ pair 7 s ∷ [];
      last = 120;
    }

abbrev record_with : Sending Screenshot → Record
record_with s = record no_record { known = true; sender = s }

-- number 8 isn't offered to the first, and its newest isn't due at 220 ms
eight_are_enough : (s : Screenshot) → is_offered (record_with (eight_held s)) 8 220 ≡ false
unfolding no_record
eight_are_enough s = refl

not_yet_due : (s : Screenshot) → is_due (eight_held s) 220 ≡ false
not_yet_due s = refl

-- it is due 250 ms after its last sending, and 0 is still its base
due_again : (s : Screenshot) → is_due (eight_held s) 370 ≡ true
due_again s = refl

base_is_kept : (s : Screenshot) → (down_from Two (eight_held s) 0).old ≡ 0
base_is_kept s = refl

newest_is_told : (s : Screenshot) → (down_from Two (eight_held s) 0).new ≡ 7
newest_is_told s = refl

-- the second's answer leaves 7 alone, and number 8 is offered to it
answered : (s : Screenshot) → acked (eight_held s) 7 ≡ record { base = pair 7 s; later = []; last = 120 }
answered s = refl

offered_then : (s : Screenshot) → is_offered (record_with (acked (eight_held s) 7)) 8 220 ≡ true
unfolding no_record
offered_then s = refl

due_then : (s : Screenshot) → is_due (offered (acked (eight_held s) 7) 8 s) 220 ≡ true
due_then s = refl

-- a client that shows 0 takes 7 from 0 as new, and from then on 3 from 0 as old
new_from_0 : (s : Screenshot) → step_for (start s) 0 7 0 ≡ step.New
new_from_0 s = refl

old_after_7 : (s : Screenshot) → step_for (record { earlier = (start s).newest ∷ []; newest = record { number = 7; state = s } }) 0 3
    0 ≡ step.Old
old_after_7 s = refl
