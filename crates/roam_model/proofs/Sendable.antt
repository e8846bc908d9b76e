-- Each datagram that was sent has a text, and as many instances are known as may be.
use Rattle.std.proofs.Common.{◌≡◌, ◌⊎◌, ℕ, zero, suc, ◌+◌, ◌*◌, ◌<◌, ◌≤◌, ◌^◌, List, [], ◌∷◌, ◌++◌, length, get_or, map, Some, Bool, true, false, refl, sym, ap, ◌∙◌, subst, inl, inr, arith, cond, length-append, length-take}
use Rattle.std.specs.Prelude.{slice_get, nat_le, nat_eq, not, ◌&&◌, ◌||◌}
use Rattle.std.specs.List.{enumerate_from, list_any}
use Rattle.std.proofs.lemmas.Bool.Decides.{nat_tests}
use Rattle.roam_cells.specs.declared.faults.Fault.TheVariants.{BadDatagram, OtherSession, ClientsFull}
use Rattle.roam_cells.specs.declared.faults.Reason.TheVariants as reason
use Rattle.roam_screens.specs.Screenshot.{Screenshot}
use Rattle.roam_acts.specs.declared.acts.Act.{Act}
use Rattle.roam_acts.specs.declared.acts.Act.TheVariants.{SplitRight, SplitDown, Close, Focus, Next, Grow, Size, View}
use Rattle.roam_acts.specs.declared.acts.Act.TheVariants as act
use Rattle.roam_keys.specs.declared.keys.Key.{Key}
use Rattle.roam_keys.specs.declared.keys.Key.TheVariants.{Char}
use Rattle.roam_acts.specs.Bytes.{act_text, acts_text, key_fields}
use Rattle.roam_sync.specs.Senders.{newest}
use Rattle.roam_wire.specs.Cutting.{fragments_of, HasLength, AreSendable}
use Rattle.roam_wire.specs.Gatherers.{gather, fragment_of}
use Rattle.roam_wire.specs.Instructions.{DownValue, down_text, UpValue, up_text}
use Rattle.roam_session.specs.Sessions.{SessionSize}
use Rattle.roam_model.proofs.Alike.{is_same-same, alike_same, alike_known, alike_new}
use Rattle.roam_model.specs.Versions.{is_same_version, difference_by}
use Rattle.roam_model.proofs.Versions.{change_short}
use Rattle.roam_model.specs.Lists.{IsIn, with_value}
use Rattle.roam_model.specs.Moments.{is_spent}
use Rattle.roam_model.specs.Texts.{datagram_with, datagrams_of, is_to_server, is_watching, kind_from}
use Rattle.roam_model.specs.Servers.{Record, Server, new_server, no_record, moment}
use Rattle.roam_model.specs.ServerArrivals.{coming, coming_gathered, arrival_with, is_same, most_of, alike_in, alike}
use Rattle.roam_model.specs.Arrival.{Arrival, turned_away, noted, completed}
use Rattle.roam_model.specs.Ticks.{makes, number_after, screen_to, holds_after, sends, down_to, fragments_to, after_sent, ticked_record, datagrams_to, is_record_spent, Parcel, parcel, parcels_to, sent_by, is_tick_spent}
use Rattle.roam_model.specs.Clients.{Client, nobody, new_client, moment_of}
use Rattle.roam_model.specs.Sendings.{up_from, fragments_from, datagrams_from, is_client_spent, after_instruction}
use Rattle.roam_model.specs.Worlds.{World, new_world, Event, PaneBytes, Typed, ServerTick, ClientTick, ToServer, ToClient, Start, Drain, Reply, with_client}
use Rattle.roam_model.specs.Steps.{refused, taken, no_pane, too_many, gone, empty_slot, full, spent, typed, no_memory, ticked as did_tick, quiet, sent, not_sent, fragment, unread, all_taken, no_room, no_memory_at_act, bad_change, whole, used, started, wstep, Run, watching, unfit}
use Rattle.roam_model.specs.Laws.{IsEvent, AreEvents, Always}
use Rattle.roam_model.specs.Holds.{Holds, Counts}
use Rattle.roam_model.proofs.Members.{IsIn-append_left, IsIn-append_right, IsIn-append_cases, IsIn-push_cases, IsIn-map, IsIn-flat_map, IsIn-enumerate, slice_get-within, on_put}
use Rattle.roam_model.proofs.Keeps.{not_past, or_left, or_right}
use Rattle.roam_model.proofs.ServerKeeps.{sends_known, newest_screen}
use Rattle.roam_model.proofs.Runs.{was_sent, keeps-step, holds-new}
use Rattle.roam_wire.proofs.Cuts.{sendable_in}
use Rattle.roam_wire.specs.declared.versions.Version.{Version}
use Rattle.roam_wire.specs.declared.versions.Version.TheVariants.{One, Two}
use Rattle.roam_wire.specs.Versions.{most_bytes}
use Rattle.roam_wire.specs.declared.datagrams.Kind.{Kind}
use Rattle.roam_wire.specs.declared.datagrams.Kind.TheVariants.{ToClient as ToClientKind, FromWatcher}
use Rattle.roam_wire.specs.Datagrams.{DatagramValue, IsDatagram}

-- ---- texts are short

down_length : (d : DownValue) → length (down_text d) ≡ 32 + length d.change
down_length d = omega arith

key_length : (k : Key) → length (key_fields k) ≤ 4
key_length (Char c) = omega arith
key_length _ = omega arith

act_length : (a : Act) → length (act_text a) ≤ 5
act_length (act.Key k) = let few = key_length k in omega (arith, few)
act_length SplitRight = omega arith
act_length SplitDown = omega arith
act_length Close = omega arith
act_length (Focus p) = omega arith
act_length Next = omega arith
act_length (Grow d) = omega arith
act_length (Size r c) = omega arith
act_length (View d) = omega arith

pub acts_length : (acts : List Act) → length (acts_text acts) ≤ 5 * length acts
acts_length [] = omega arith
acts_length (a ∷ acts) =
    let one = act_length a in
    let rest = acts_length acts in
    omega (arith, one, rest, length-append (act_text a) (acts_text acts))

pub up_length : (u : UpValue) → length (up_text u) ≡ 18 + length (acts_text u.acts)
up_length u = omega arith

-- ---- the datagrams of an instruction

get_at : (xs : List (List ℕ)) (i : ℕ) (x : List ℕ) → slice_get xs i ≡ Some x → get_or xs i [] ≡ x
get_at [] i x e = absurd (cc)
get_at (y ∷ xs) zero x e = cc
get_at (y ∷ xs) (suc i) x e = get_at xs i x e

packed_sendable : (v : Version) (kind : Kind) (session client before id : ℕ) (text : List ℕ) (d : DatagramValue) → session < 2 ^ 64 → client < 2 ^ 64
    → 1 ≤ id → id < 2 ^ 62
    → before + length (fragments_of text) < 2 ^ 62 → length text ≤ most_bytes v
    → (kind ≡ FromWatcher → v ≡ Two) → IsIn d (datagrams_of v kind session client before id (fragments_of text)) → IsDatagram d
packed_sendable v kind session client before id text d s c low high numbers short new i =
    subst IsDatagram m.2 (record {
      kind = new;
      session = s;
      client = c;
      number = (omega (arith, at, lt), omega (arith, at, lt, numbers));
      id = (low, high);
      count = (omega (arith, lt), can.few);
      index = omega (arith, at, lt);
      len = (subst (λ (xs : List ℕ). 1 ≤ length xs) here len.low, subst (λ (xs : List ℕ). length xs ≤ 1200) here len.high);
      whole = (λ more. subst (λ (xs : List ℕ). length xs ≡ 1200) here (len.whole (omega (arith, at, more))));
    })
  where
    make : ℕ × List ℕ → DatagramValue
    make = datagram_with v kind session client before id (length (fragments_of text))

    m : (x : ℕ × List ℕ) × IsIn x (enumerate_from 0 (fragments_of text))
        × (datagram_with v kind session client before id (length (fragments_of text)) x ≡ d)
    m = IsIn-map (datagram_with v kind session client before id (length (fragments_of text))) d (enumerate_from 0 (fragments_of text)) i

    n : (k : ℕ) × (m.0.0 ≡ 0 + k) × (slice_get (fragments_of text) k ≡ Some m.0.1)
    n = IsIn-enumerate 0 (fragments_of text) m.0 m.1

    at : m.0.0 ≡ n.0
    at = n.1 ∙ (let z : 0 + n.0 ≡ n.0 = omega arith in z)

    lt : n.0 < length (fragments_of text)
    lt = slice_get-within (fragments_of text) n.0 m.0.1 n.2

    here : get_or (fragments_of text) n.0 [] ≡ m.0.1
    here = get_at (fragments_of text) n.0 m.0.1 n.2

    can : AreSendable v (fragments_of text)
    can = sendable_in v text short

    len : HasLength n.0 (length (fragments_of text)) (length (get_or (fragments_of text) n.0 []))
    len = can.lengths n.0 lt

-- ---- a client instance sends

-- a text within the smaller limit is within each
roomy : (v : Version) (n : ℕ) → n ≤ 1000 → n ≤ most_bytes v
roomy One n le = omega (arith, le)
roomy Two n le = omega (arith, le)

from_sendable : (w : World) (id : ℕ) → is_client_spent (w.clients id).kept ≡ false → (w.clients id).made ≡ true → Holds w → Counts w
    → (d : DatagramValue) → IsIn d (datagrams_from w.server.session id (w.clients id).kept) → IsDatagram d
from_sendable w id e made h k d i =
    let c = w.clients id in
    let left = or_left (is_spent (c.kept.acts.acked + 1) || is_spent (c.kept.instructions + 1))
    (is_spent (c.kept.datagrams + length (fragments_from c.kept))) e in
    let number = not_past (c.kept.instructions + 1) (or_right (is_spent (c.kept.acts.acked + 1)) (is_spent (c.kept.instructions + 1)) left)
    in
    let numbers = not_past (c.kept.datagrams + length (fragments_from c.kept))
    (or_right (is_spent (c.kept.acts.acked + 1) || is_spent (c.kept.instructions + 1))
    (is_spent (c.kept.datagrams + length (fragments_from c.kept))) e) in
    let many = up_length (up_from (w.clients id).kept) in
    let few = acts_length (up_from (w.clients id).kept).acts in
    let taken = length-take 64 (w.clients id).kept.acts.acts in
    packed_sendable c.kept.version (kind_from c.kept.watches) w.server.session id c.kept.datagrams (c.kept.instructions + 1)
    (up_text (up_from c.kept)) d k.session (k.starts id made)
    (omega arith) number numbers (roomy c.kept.version (length (up_text (up_from c.kept))) (omega (arith, many, few, taken)))
    (λ z. (h.watchers id (only (w.clients id).kept.watches z)).1) i
  where
    only : (watches : Bool) → kind_from watches ≡ FromWatcher → watches ≡ true
    only true z = refl
    only false z = absurd (cc)

-- ---- the server ticks

list_any-false : (f : ℕ → Bool) (xs : List ℕ) (x : ℕ) → list_any f xs ≡ false → IsIn x xs → f x ≡ false
list_any-false f [] x e i = absurd i
list_any-false f (y ∷ xs) x e i =
    elim i [
      | inl same ↦ ap f (sym same) ∙ or_left (f y) (list_any f xs) e
      | inr rest ↦ list_any-false f xs x (or_right (f y) (list_any f xs) e) rest
    ]

to_sendable : (w : World) (now : ℕ) → is_tick_spent w.server now ≡ false → Holds w → Counts w
    → (d : DatagramValue)
    → IsIn d (map (λ (p : Parcel). p.datagram) (sent_by w.server now)) → IsDatagram d
to_sendable w now e h k d i =
    let a = IsIn-map (λ (p : Parcel). p.datagram) d (sent_by w.server now) i in
    let f = IsIn-flat_map (parcels_to w.server now) a.0 w.server.arrival a.1 in
    let m = IsIn-map (parcel (w.server.records f.0).address) a.0
    (datagrams_to w.server.session f.0 (w.server.records f.0) (number_after w.server now) (screen_to w.server now f.0) now) f.2 in
    let is : m.0 ≡ d = ap (λ (y : Parcel). y.datagram) m.2 ∙ a.2 in
    subst IsDatagram is (one f.0 f.1 m.0 m.1)
  where
    n : ℕ
    n = number_after w.server now

    s : ℕ → Screenshot
    s id = screen_to w.server now id

    one : (id : ℕ) → IsIn id w.server.arrival → (x : DatagramValue)
        → IsIn x (datagrams_to w.server.session id (w.server.records id) (number_after w.server now) (screen_to w.server now id) now)
        → IsDatagram x
    one id there x j = go (sends r n (s id) now) refl j
        (list_any-false (λ (q : ℕ). is_record_spent (w.server.records q) n (s q) now) w.server.arrival id
        (or_right (makes w.server now && is_spent (number_after w.server now)) _ e) there)
      where
        r : Record
        r = w.server.records id

        short : (w.server.records id).known ≡ true → length (down_text (down_to r n (s id) now)) ≤ most_bytes (w.server.records id).version
        short known =
            let held = holds_after r n (s id) now in
            let long = down_length (down_to r n (s id) now) in
            let few = subst (λ (v : Version). 32 + length (difference_by v held.base.state (newest held).state) ≤ most_bytes v)
            (sym ((h.fits id).version known)) (change_short (w.clients id).kept.version held.base.state (newest held).state
            (newest_screen w now e h id)) in
            subst (λ (k : ℕ). k ≤ most_bytes (w.server.records id).version) (sym long) few

        go : (b : Bool) → sends r n (s id) now ≡ b → IsIn x
            (cond b (datagrams_of r.version ToClientKind w.server.session id r.datagrams (length r.instructions + 1) (fragments_to r n (s id) now))
            [])
            → (b && (is_spent (length r.instructions + 1) || is_spent (r.datagrams + length (fragments_to r n (s id) now)))) ≡ false
            → IsDatagram x
        go false f y g = absurd y
        go true f y g =
            packed_sendable r.version ToClientKind w.server.session id r.datagrams (length r.instructions + 1) (down_text (down_to r n (s id) now)) x
            k.session (k.ids id there) (omega arith)
            (not_past (length r.instructions + 1) (or_left (is_spent (length r.instructions + 1))
            (is_spent (r.datagrams + length (fragments_to r n (s id) now))) g))
            (not_past (r.datagrams + length (fragments_to r n (s id) now))
            (or_right (is_spent (length r.instructions + 1)) (is_spent (r.datagrams + length (fragments_to r n (s id) now))) g))
            (short (sends_known r n (s id) now f)) (λ z. absurd (cc)) y

known_ticked : (r : Record) (n : ℕ) (s : Screenshot) (now : ℕ) → (ticked_record r n s now).known ≡ r.known
known_ticked r n s now = go (sends r n s now)
  where
    go : (b : Bool) → (cond b (after_sent r n s now) (record r { sender = holds_after r n s now })).known ≡ r.known
    go true = refl
    go false = refl

watches_ticked : (r : Record) (n : ℕ) (s : Screenshot) (now : ℕ) → (ticked_record r n s now).watches ≡ r.watches
watches_ticked r n s now = go (sends r n s now)
  where
    go : (b : Bool) → (cond b (after_sent r n s now) (record r { sender = holds_after r n s now })).watches ≡ r.watches
    go true = refl
    go false = refl

-- ---- a datagram comes

-- if a datagram isn't turned away, there is room for its record, or it comes from an instance that is read-only, or isn't, as before
record Enters (s : Server) (d : DatagramValue) : Type 0 where
  room : (s.records d.client).known ≡ false → length (alike s (is_watching d.kind)) < most_of (is_watching d.kind)
  same : (s.records d.client).known ≡ true → (s.records d.client).watches ≡ is_watching d.kind

IsRoom : Server → DatagramValue → Arrival (Unit {0}) → Type 0
IsRoom s d (turned_away f) = Unit {0}
IsRoom s d (noted tt g) = Enters s d
IsRoom s d (completed g text) = Enters s d

all_room : (s : Server) (d : DatagramValue) (c : Arrival (Unit {0})) → Enters s d → IsRoom s d c
unfolding IsRoom
all_room s d (turned_away f) room = tt
all_room s d (noted tt g) room = room
all_room s d (completed g text) room = room

room_in : (s : Server) (d : DatagramValue) → IsRoom s d (coming s d)
unfolding IsRoom
room_in s d = go (coming_gathered (gather (s.records d.client).gathering (fragment_of d))) (not (is_to_server d.kind))
    (not (nat_eq d.session s.session)) (s.records d.client).known refl
    (nat_le (most_of (is_watching d.kind)) (length (alike s (is_watching d.kind)))) refl
    (is_same_version (s.records d.client).version d.version) (is_same (s.records d.client).watches (is_watching d.kind)) refl
  where
    below : (a b : ℕ) → nat_le a b ≡ false → b < a
    below a b e = grind (arith, nat_tests)

    go : (x : Arrival (Unit {0})) (a b k : Bool) → (s.records d.client).known ≡ k
        → (m : Bool) → nat_le (most_of (is_watching d.kind)) (length (alike s (is_watching d.kind))) ≡ m → (o : Bool)
        → (q : Bool) → is_same (s.records d.client).watches (is_watching d.kind) ≡ q
        → IsRoom s d (cond a (turned_away (BadDatagram reason.Kind))
        (cond b (turned_away OtherSession) (cond (not k && m) (turned_away ClientsFull)
        (cond (k && not o) (turned_away (BadDatagram reason.Version)) (cond (k && not q) (turned_away (BadDatagram reason.Kind)) x)))))
    go x true b k e m f o q g = tt
    go x false true k e m f o q g = tt
    go x false false true e m f false q g = tt
    go x false false true e m f true false g = tt
    go x false false true e m f true true g = all_room s d x (record {
      room = (λ z. let no : true ≡ false = sym e ∙ z in absurd (cc));
      same = (λ z. is_same-same (s.records d.client).watches (is_watching d.kind) g);
    })
    go x false false false e true f o q g = tt
    go x false false false e false f o q g = all_room s d x (record {
      room = (λ z. below (most_of (is_watching d.kind)) (length (alike s (is_watching d.kind))) f);
      same = (λ z. let no : false ≡ true = sym e ∙ z in absurd (cc));
    })

-- the ids after one more record
record IsArrival (s : Server) (id : ℕ) (r : Record) (ids : List ℕ) : Type 0 where
  here : IsIn id ids
  stays : (j : ℕ) → IsIn j s.arrival → IsIn j ids
  only : (j : ℕ) → IsIn j ids → IsIn j s.arrival ⊎ (id ≡ j)
  few : (watches : Bool) → length (alike_in (with_value s.records id r) watches ids) ≤ most_of watches

arrival_is : (w : World) (d : DatagramValue) (r : Record) → r.watches ≡ is_watching d.kind → Enters w.server d → Counts w
    → IsArrival w.server d.client r (arrival_with w.server d.client)
arrival_is w d r watches enters k = go (w.server.records d.client).known refl
  where
    id : ℕ
    id = d.client

    go : (b : Bool) → (w.server.records d.client).known ≡ b
        → IsArrival w.server d.client r (cond b w.server.arrival (w.server.arrival ++ d.client ∷ []))
    go true e = record {
      here = k.arrived id e;
      stays = (λ j i. i);
      only = (λ j i. inl i);
      few = alike_known w.server.records r w.server.arrival id (enters.same e ∙ sym watches) k.few;
    }
    go false e =
        record {
          here = IsIn-append_right id w.server.arrival (id ∷ []) (inl refl);
          stays = (λ j i. IsIn-append_left j w.server.arrival (id ∷ []) i);
          only = (λ j i. IsIn-push_cases j id w.server.arrival i);
          few = alike_new w.server.records r w.server.arrival id (λ i. let no : true ≡ false = sym (k.known id i) ∙ e in cc)
              (subst (λ (b : Bool). length (alike_in w.server.records b w.server.arrival) < most_of b) (sym watches) (enters.room e)) k.few;
        }

-- the server hears from an instance
heard_counts : (w : World) (s : Server) (d : DatagramValue) (r : Record) → s.session ≡ w.server.session
    → s.records ≡ with_value w.server.records d.client r → s.arrival ≡ arrival_with w.server d.client
    → r.known ≡ true → r.watches ≡ is_watching d.kind → d.client < 2 ^ 64 → Enters w.server d → Counts w → Counts (record w { server = s })
heard_counts w s d r same records arrival known watches small enters k =
    let is = arrival_is w d r watches enters k in
    let id = d.client in
    record {
      session = subst (λ (n : ℕ). n < 2 ^ 64) (sym same) k.session;
      starts = k.starts;
      arrived = subst (λ (f : ℕ → Record). (j : ℕ) → (f j).known ≡ true → IsIn j s.arrival) (sym records)
          (subst (λ (ids : List ℕ). (j : ℕ) → (with_value w.server.records d.client r j).known ≡ true → IsIn j ids) (sym arrival)
          (on_put (λ j x. x.known ≡ true → IsIn j (arrival_with w.server d.client)) w.server.records d.client r (λ e. is.here)
          (λ j e f. is.stays j (k.arrived j f))));
      known = subst (λ (f : ℕ → Record). (j : ℕ) → IsIn j s.arrival → (f j).known ≡ true) (sym records)
          (subst (λ (ids : List ℕ). (j : ℕ) → IsIn j ids → (with_value w.server.records d.client r j).known ≡ true) (sym arrival)
          (on_put (λ j x. IsIn j (arrival_with w.server d.client) → x.known ≡ true) w.server.records d.client r (λ i. known)
          (λ j e i. elim (is.only j i) [ inl old ↦ k.known j old | inr z ↦ absurd (other j e z) ])));
      ids = subst (λ (ids : List ℕ). (j : ℕ) → IsIn j ids → j < 2 ^ 64) (sym arrival)
          (λ j i. elim (is.only j i) [ inl old ↦ k.ids j old | inr e ↦ subst (λ (n : ℕ). n < 2 ^ 64) e small ]);
      few = subst (λ (f : ℕ → Record). (b : Bool) → length (alike_in f b s.arrival) ≤ most_of b) (sym records)
          (subst (λ (ids : List ℕ). (b : Bool) → length (alike_in (with_value w.server.records d.client r) b ids) ≤ most_of b) (sym arrival) is.few);
      sent = k.sent;
    }
  where
    other : (j : ℕ) → nat_eq j d.client ≡ false → d.client ≡ j → ⊥
    other j e z = grind (arith, nat_tests)

-- a client instance changes that was made
client_counts : (w : World) (id : ℕ) (c : Client) → id < 2 ^ 64 → Counts w → Counts (with_client w id c)
client_counts w id c small k =
    record {
      session = k.session;
      starts = on_put (λ j x. x.made ≡ true → j < 2 ^ 64) w.clients id c (λ e. small) (λ j e. k.starts j);
      arrived = k.arrived;
      known = k.known;
      ids = k.ids;
      few = k.few;
      sent = k.sent;
    }

-- ---- each step

counts-step : (w : World) (e : Event) (r : Reply) (w' : World) → IsEvent e → wstep w e r w' → Holds w → Counts w → Counts w'
unfolding IsRoom
counts-step w (PaneBytes p bytes) r w' i (refused f x e is) h k = subst Counts (sym is) k
counts-step w (PaneBytes p bytes) r w' i (taken x e is) h k =
    subst Counts (sym is) (record { session = k.session; starts = k.starts; arrived = k.arrived; known = k.known; ids = k.ids; few = k.few; sent = k.sent })
counts-step w (Drain p n) r w' i (no_pane x e is) h k = subst Counts (sym is) k
counts-step w (Drain p n) r w' i (too_many out x y e is) h k = subst Counts (sym is) k
counts-step w (Drain p n) r w' i (gone out x y e is) h k =
    subst Counts (sym is) (record { session = k.session; starts = k.starts; arrived = k.arrived; known = k.known; ids = k.ids; few = k.few; sent = k.sent })
counts-step w (Typed slot a) r w' i (empty_slot x e is) h k = subst Counts (sym is) k
counts-step w (Typed slot a) r w' i (watching id x y e is) h k = subst Counts (sym is) k
counts-step w (Typed slot a) r w' i (full id x q y e is) h k = subst Counts (sym is) k
counts-step w (Typed slot a) r w' i (spent id x q y e is) h k = subst Counts (sym is) k
counts-step w (Typed slot a) r w' i (typed id x q y z e is) h k =
    subst Counts (sym is) (client_counts w id _ (k.starts id (h.slots slot id x)) k)
counts-step w (Typed slot a) r w' i (no_memory e is) h k = subst Counts (sym is) k
counts-step w (ServerTick now) r w' i (spent x e is) h k = subst Counts (sym is) k
counts-step w (ServerTick now) r w' i (did_tick x e is) h k =
    subst Counts (sym is) (record {
      session = k.session;
      starts = k.starts;
      arrived = (λ id f. k.arrived id
          (sym (known_ticked (w.server.records id) (number_after w.server (moment w.server now))
          (screen_to w.server (moment w.server now) id) (moment w.server now)) ∙ f));
      known = (λ id j. known_ticked (w.server.records id) (number_after w.server (moment w.server now))
          (screen_to w.server (moment w.server now) id) (moment w.server now) ∙ k.known id j);
      ids = k.ids;
      few = (λ b. subst (λ (n : ℕ). n ≤ most_of b) (sym (alike_same (λ id. ticked_record (w.server.records id)
          (number_after w.server (moment w.server now)) (screen_to w.server (moment w.server now) id) (moment w.server now))
          w.server.records b w.server.arrival (λ id j. watches_ticked (w.server.records id) (number_after w.server (moment w.server now))
          (screen_to w.server (moment w.server now) id) (moment w.server now)))) (k.few b));
      sent = (λ d j. elim (IsIn-append_cases d w.sent (map (λ (p : Parcel). p.datagram) (sent_by w.server (moment w.server now))) j) [
        | inl o ↦ k.sent d o
        | inr n ↦ to_sendable w (moment w.server now) x h k d n
      ]);
    })
counts-step w (ServerTick now) r w' i (no_memory e is) h k = subst Counts (sym is) k
counts-step w (ClientTick slot now) r w' i (empty_slot x e is) h k = subst Counts (sym is) k
counts-step w (ClientTick slot now) r w' i (quiet id x y e is) h k =
    subst Counts (sym is) (client_counts w id _ (k.starts id (h.slots slot id x)) k)
counts-step w (ClientTick slot now) r w' i (spent id x y z e is) h k = subst Counts (sym is) k
counts-step w (ClientTick slot now) r w' i (sent id x y z e is) h k =
    subst Counts (sym is) (record {
      session = k.session;
      starts = on_put (λ j c. c.made ≡ true → j < 2 ^ 64) w.clients id
          (after_instruction (w.clients id) (moment_of (w.clients id).kept now)) (λ f. k.starts id (h.slots slot id x)) (λ j f. k.starts j);
      arrived = k.arrived;
      known = k.known;
      ids = k.ids;
      few = k.few;
      sent = (λ d j. elim (IsIn-append_cases d w.sent (datagrams_from w.server.session id (w.clients id).kept) j) [
        | inl o ↦ k.sent d o
        | inr n ↦ from_sendable w id z (h.slots slot id x) h k d n
      ]);
    })
counts-step w (ClientTick slot now) r w' i (no_memory e is) h k = subst Counts (sym is) k
counts-step w (ToServer n from now) r w' i (not_sent x e is) h k = subst Counts (sym is) k
counts-step w (ToServer n from now) r w' i (refused d f x y e is) h k = subst Counts (sym is) k
counts-step w (ToServer n from now) r w' i (fragment d g x y e is) h k =
    subst Counts (sym is) (heard_counts w _ d _ refl refl refl refl refl (k.sent d (was_sent w n d x)).client
    (subst (IsRoom w.server d) y (room_in w.server d)) k)
counts-step w (ToServer n from now) r w' i (unread d g text why x y z e is) h k = subst Counts (sym is) k
counts-step w (ToServer n from now) r w' i (all_taken d g text u x y z a e is) h k =
    subst Counts (sym is) (heard_counts w _ d _ refl refl refl refl refl (k.sent d (was_sent w n d x)).client
    (subst (IsRoom w.server d) y (room_in w.server d)) k)
counts-step w (ToServer n from now) r w' i (no_room d g text u x y z a e is) h k =
    subst Counts (sym is) (heard_counts w _ d _ refl refl refl refl refl (k.sent d (was_sent w n d x)).client
    (subst (IsRoom w.server d) y (room_in w.server d)) k)
counts-step w (ToServer n from now) r w' i (no_memory_at_act d g text u m x y z lt e is) h k =
    subst Counts (sym is) (heard_counts w _ d _ refl refl refl refl refl (k.sent d (was_sent w n d x)).client
    (subst (IsRoom w.server d) y (room_in w.server d)) k)
counts-step w (ToServer n from now) r w' i (no_memory e is) h k = subst Counts (sym is) k
counts-step w (ToClient slot n now) r w' i (empty_slot x e is) h k = subst Counts (sym is) k
counts-step w (ToClient slot n now) r w' i (not_sent x e is) h k = subst Counts (sym is) k
counts-step w (ToClient slot n now) r w' i (refused id d f x y z e is) h k = subst Counts (sym is) k
counts-step w (ToClient slot n now) r w' i (fragment id d how g x y z e is) h k =
    subst Counts (sym is) (client_counts w id _ (k.starts id (h.slots slot id x)) k)
counts-step w (ToClient slot n now) r w' i (unread id d g text why x y z a e is) h k = subst Counts (sym is) k
counts-step w (ToClient slot n now) r w' i (bad_change id d g text v base x y z a b c' d' e is) h k = subst Counts (sym is) k
counts-step w (ToClient slot n now) r w' i (whole id d g text v q x y z a b e is) h k =
    subst Counts (sym is) (client_counts w id _ (k.starts id (h.slots slot id x)) k)
counts-step w (ToClient slot n now) r w' i (no_memory e is) h k = subst Counts (sym is) k
counts-step w (Start slot id v watches) r w' i (used x e is) h k = subst Counts (sym is) k
counts-step w (Start slot id v watches) r w' i (unfit x e is) h k = subst Counts (sym is) k
counts-step w (Start slot id v watches) r w' i (started x y e is) h k =
    subst Counts (sym is) (record {
      session = k.session;
      starts = on_put (λ j c. c.made ≡ true → j < 2 ^ 64) w.clients id (new_client v watches) (λ f. i) (λ j f. k.starts j);
      arrived = k.arrived;
      known = k.known;
      ids = k.ids;
      few = k.few;
      sent = k.sent;
    })
counts-step w (Start slot id v watches) r w' i (no_memory e is) h k = subst Counts (sym is) k

counts-new : (session : ℕ) (size : SessionSize) → session < 2 ^ 64 → Counts (new_world session size)
unfolding new_world new_server nobody no_record
counts-new session size small =
    record {
      session = small;
      starts = (λ id e. absurd (let z : false ≡ true = e in cc));
      arrived = (λ id e. absurd (let z : false ≡ true = e in cc));
      known = (λ id i. absurd i);
      ids = (λ id i. absurd i);
      few = (λ watches. omega arith);
      sent = (λ d i. absurd i);
    }

counts-run : (w : World) (es : List Event) (rs : List Reply) (w' : World) → AreEvents es → Run w es rs w' → Holds w → Counts w → Counts w'
counts-run w [] [] w' i r h k = subst Counts (sym r) k
counts-run w (e ∷ es) (a ∷ rs) w' i r h k =
    counts-run r.0 es rs w' i.1 r.2 (keeps-step w e a r.0 i.0 r.1 h) (counts-step w e a r.0 i.0 r.1 h k)
counts-run w [] (a ∷ rs) w' i r h k = absurd r
counts-run w (e ∷ es) [] w' i r h k = absurd r

pub counts-reached : Always Counts
counts-reached session size es rs w reaches =
    counts-run (new_world session size) es rs w reaches.events reaches.run (holds-new session size reaches.limits) (counts-new session size reaches.id)
