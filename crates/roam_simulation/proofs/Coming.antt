-- A datagram of those that were sent comes to the server, or to an instance.
use Rattle.std.proofs.Common.{◌≡◌, ℕ, ◌-◌, ◌<◌, List, length, set, Option, Some, None, Bool, true, false, refl, sym, ap, ◌∙◌, cond, subst}
use Rattle.std.specs.Prelude.{Result, Ok, Err, map, nat_eq, slice_get}
use Rattle.std.specs.Option.{option_map}
use Rattle.std.proofs.lemmas.Option.{slice_get-map}
use Rattle.roam_cells.specs.declared.faults.Fault.{Fault}
use Rattle.roam_wire.specs.Datagrams.{DatagramValue, IsDatagram, datagram_text}
use Rattle.roam_model.specs.Texts.{Address}
use Rattle.roam_model.specs.Servers.{moment}
use Rattle.roam_model.specs.ServerArrivals.{after_note, after_acts, new_acts, room_for}
use Rattle.roam_model.specs.Clients.{moment_of}
use Rattle.roam_model.specs.ClientArrivals.{Hearing, after_fragment, after_whole}
use Rattle.roam_model.specs.Limits.{Limits}
use Rattle.roam_model.specs.Worlds.{World, ToServer, ToClient, Reply, Taken, Heard, Failed, Stopped, datagram_at, with_server, with_kept}
use Rattle.roam_model.specs.Steps.{refused, fragment, unread, all_taken, no_room, no_memory_at_act, no_memory, bad_change, whole}
use Rattle.roam_model.proofs.Runs.{was_sent}
use Rattle.roam_hub.specs.declared.addresses.Stop.{Stop}
use Rattle.roam_hub.specs.declared.clients.Heard.{Heard as HeardAs}
use Rattle.roam_hub.specs.Clients.{ClientView, view_of, hearing_in, IsTextOf, IsNoDatagram, Hears}
use Rattle.roam_hub.specs.Clients as client
use Rattle.roam_hub.specs.Servers.{ServerView, Comes}
use Rattle.roam_hub.specs.Servers as server
use Rattle.roam_simulation.specs.Networks.{text_at}
use Rattle.roam_simulation.specs.Worlds.{WorldView, start_in, Stands, Steps}
use Rattle.roam_simulation.proofs.Slots.{Sits, sits, stands_kept, stands_put, stands_served, stands_serving}

-- ---- the datagram sent under a number

text_of : (ds : List DatagramValue) (n : ℕ) → text_at (map datagram_text ds) n ≡ option_map datagram_text (datagram_at ds n)
text_of ds n = go (nat_eq n 0)
  where
    go : (b : Bool) → cond b None (slice_get (map datagram_text ds) (n - 1)) ≡ option_map datagram_text (cond b None (slice_get ds (n - 1)))
    go true = refl
    go false = slice_get-map datagram_text ds (n - 1)

-- a datagram of the list, which bytes spell
pub record IsSent (w : World) (n : ℕ) (bytes : List ℕ) : Type 0 where
  pub datagram : DatagramValue
  pub at : datagram_at w.sent n ≡ Some datagram
  pub spelled : bytes ≡ datagram_text datagram

pub is_sent : (v : WorldView) (w : World) (n : ℕ) (bytes : List ℕ) → Stands v w → Some bytes ≡ text_at v.sent n → IsSent w n bytes
is_sent v w n bytes st e = go (datagram_at w.sent n) refl (e ∙ ap (λ (xs : List (List ℕ)). text_at xs n) st.sent ∙ text_of w.sent n)
  where
    go : (o : Option DatagramValue) → datagram_at w.sent n ≡ o → Some bytes ≡ option_map datagram_text (datagram_at w.sent n)
        → IsSent w n bytes
    go None at f = absurd (let z : Some bytes ≡ option_map datagram_text None = f ∙ ap (option_map datagram_text) at in cc)
    go (Some d) at f =
        record {
          datagram = d;
          at = at;
          spelled = (let z : Some bytes ≡ Some (datagram_text d) = f ∙ ap (option_map datagram_text) at in cc);
        }

-- two datagrams with one text are equal
abbrev pub OneText : Type 0
OneText = (d e : DatagramValue) → IsDatagram d → IsDatagram e → datagram_text d ≡ datagram_text e → d ≡ e

-- the bytes are read as the datagram that was sent
read_as : (w : World) (n : ℕ) (bytes : List ℕ) (d : DatagramValue) → Limits w → OneText → IsSent w n bytes → IsTextOf bytes d
    → datagram_at w.sent n ≡ Some d
read_as w n bytes d l one s text =
    s.at ∙ ap (λ x. Some x) (one s.datagram d (l.datagrams s.datagram (was_sent w n s.datagram s.at)) text.is
    (sym s.spelled ∙ text.spelled))

readable : (w : World) (n : ℕ) (bytes : List ℕ) (why : _) → Limits w → IsSent w n bytes → IsNoDatagram bytes why → ⊥
readable w n bytes why l s none = none.none s.datagram (l.datagrams s.datagram (was_sent w n s.datagram s.at)) s.spelled

-- ---- to the server

-- how a datagram to the server is answered
abbrev pub taken_by : Result ℕ Stop → Reply
taken_by (Ok n) = Taken n
taken_by (Err stop) = Stopped stop.fault stop.taken

pub steps_come : (v : WorldView) (w : World) (n : ℕ) (from : Address) (now : ℕ) (bytes : List ℕ) (result : Result ℕ Stop)
    (view : ServerView) → Stands v w → Limits w → OneText → Some bytes ≡ text_at v.sent n → Comes w.server from bytes now result view
    → Steps w (ToServer n from now) (taken_by result) (record v { server = view })
steps_come v w n from now bytes result view st l one known comes = go comes
  where
    s : IsSent w n bytes
    s = is_sent v w n bytes st known

    read : (d : DatagramValue) → IsTextOf bytes d → datagram_at w.sent n ≡ Some d
    read d text = read_as w n bytes d l one s text

    go : Comes w.server from bytes now result view → Steps w (ToServer n from now) (taken_by result) (record v { server = view })
    go (server.no_datagram why none e stands) = absurd (readable w n bytes why l s none)
    go (server.refused d fault text c e stands) =
        record {
          left = w;
          step = refused d fault (read d text) c (ap taken_by e) refl;
          stands = stands_serving v w view st stands;
          memory = λ want. (s.datagram, s.at);
        }
    go (server.fragment d g text c e stands) =
        record {
          left = with_server w (after_note w.server d from (moment w.server now) g);
          step = fragment d g (read d text) c (ap taken_by e) refl;
          stands = stands_served v w view (after_note w.server d from (moment w.server now) g) st refl stands;
          memory = λ want. (s.datagram, s.at);
        }
    go (server.unread d g said why text c says e stands) =
        record {
          left = w;
          step = unread d g said why (read d text) c says (ap taken_by e) refl;
          stands = stands_serving v w view st stands;
          memory = λ want. (s.datagram, s.at);
        }
    go (server.all_taken d g said u text c says room e stands) =
        record {
          left = with_server w (after_acts w.server d from (moment w.server now) g u (length (new_acts w.server d u)));
          step = all_taken d g said u (read d text) c says room (ap taken_by e) refl;
          stands =
              stands_served v w view (after_acts w.server d from (moment w.server now) g u (length (new_acts w.server d u))) st refl stands;
          memory = λ want. (s.datagram, s.at);
        }
    go (server.no_room d g said u text c says room e stands) =
        record {
          left = with_server w (after_acts w.server d from (moment w.server now) (w.server.records d.client).gathering u
              (room_for w.server d u));
          step = no_room d g said u (read d text) c says room (ap taken_by e) refl;
          stands =
              stands_served v w view (after_acts w.server d from (moment w.server now) (w.server.records d.client).gathering u
              (room_for w.server d u)) st refl stands;
          memory = λ want. (s.datagram, s.at);
        }
    go (server.no_memory_at_act d g said u k text c says low e stands) =
        record {
          left = with_server w (after_acts w.server d from (moment w.server now) (w.server.records d.client).gathering u k);
          step = no_memory_at_act d g said u k (read d text) c says low (ap taken_by e) refl;
          stands =
              stands_served v w view (after_acts w.server d from (moment w.server now) (w.server.records d.client).gathering u k) st refl
              stands;
          memory = λ want. (s.datagram, s.at);
        }
    go (server.no_memory x is e stands) =
        record {
          left = w;
          step = no_memory (ap taken_by e) refl;
          stands = stands_serving v w view st stands;
          memory = λ want. (s.datagram, s.at);
        }

-- ---- to a client instance

-- how a datagram to an instance is answered
abbrev pub heard_by : Result HeardAs Fault → Reply
heard_by (Ok h) = Heard (hearing_in h)
heard_by (Err fault) = Failed fault

pub steps_heard : (v : WorldView) (w : World) (slot n now : ℕ) (bytes : List ℕ) (result : Result HeardAs Fault) (c c' : ClientView)
    → Stands v w → Limits w → OneText → Some bytes ≡ text_at v.sent n → slot < length v.slots → start_in v.slots slot ≡ Some c
    → Hears c bytes now result c'
    → Steps w (ToClient slot n now) (heard_by result) (record v { slots = set v.slots slot (Some c') })
steps_heard v w slot n now bytes result c c' st l one known lt at hears =
    go (subst (λ (x : ClientView). Hears x bytes now result c') i.stands hears)
  where
    s : IsSent w n bytes
    s = is_sent v w n bytes st known

    read : (d : DatagramValue) → IsTextOf bytes d → datagram_at w.sent n ≡ Some d
    read d text = read_as w n bytes d l one s text

    i : Sits w slot c
    i = sits v w slot c st at

    go : Hears (view_of w.server.session i.id (w.clients i.id)) bytes now result c'
        → Steps w (ToClient slot n now) (heard_by result) (record v { slots = set v.slots slot (Some c') })
    go (client.no_datagram why none e stands) = absurd (readable w n bytes why l s none)
    go (client.refused d fault text a e stands) =
        record {
          left = w;
          step = refused i.id d fault i.at (read d text) a (ap heard_by e) refl;
          stands = stands_kept v w slot c c' st lt i stands;
          memory = λ want. (i.id, i.at, (s.datagram, s.at));
        }
    go (client.fragment d h g text a e stands) =
        record {
          left = with_kept w i.id (after_fragment (w.clients i.id).kept (moment_of (w.clients i.id).kept now) g);
          step = fragment i.id d (hearing_in h) g i.at (read d text) a (ap heard_by e) refl;
          stands = stands_put v w slot c c' _ st lt i i.made stands;
          memory = λ want. (i.id, i.at, (s.datagram, s.at));
        }
    go (client.unread d g said why text a says e stands) =
        record {
          left = w;
          step = unread i.id d g said why i.at (read d text) a says (ap heard_by e) refl;
          stands = stands_kept v w slot c c' st lt i stands;
          memory = λ want. (i.id, i.at, (s.datagram, s.at));
        }
    go (client.bad_change d g said x base text a says new held bad e stands) =
        record {
          left = w;
          step = bad_change i.id d g said x base i.at (read d text) a says new held bad (ap heard_by e) refl;
          stands = stands_kept v w slot c c' st lt i stands;
          memory = λ want. (i.id, i.at, (s.datagram, s.at));
        }
    go (client.whole d h g said x r text a says told e is stands) =
        record {
          left = with_kept w i.id (after_whole (w.clients i.id).kept (moment_of (w.clients i.id).kept now) g r x);
          step = whole i.id d g said x r i.at (read d text) a says told (ap heard_by e ∙ ap (λ (y : Hearing). Heard y) is) refl;
          stands = stands_put v w slot c c' _ st lt i i.made stands;
          memory = λ want. (i.id, i.at, (s.datagram, s.at));
        }
    go (client.no_memory x is e stands) =
        record {
          left = w;
          step = no_memory (ap heard_by e) refl;
          stands = stands_kept v w slot c c' st lt i stands;
          memory = λ want. (i.id, i.at, (s.datagram, s.at));
        }
