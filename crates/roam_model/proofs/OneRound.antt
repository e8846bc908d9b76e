-- One round: a tick sends to an instance, just those datagrams come, each at least once, in any order.
use Rattle.std.proofs.Common.{◌≡◌, ℕ, ◌+◌, ◌<◌, List, [], ◌∷◌, length, Option, Some, Bool, true, false, refl, sym, ap, ◌∙◌, subst, inl, inr, arith, cond}
use Rattle.std.specs.Prelude.{map}
use Rattle.std.specs.List.{enumerate_from}
use Rattle.roam_cells.specs.declared.faults.Fault.TheVariants.{OutOfMemory}
use Rattle.roam_screens.specs.Screenshot.{Screenshot}
use Rattle.roam_sync.specs.Senders.{newest}
use Rattle.roam_sync.proofs.Ends.{marked_newest}
use Rattle.roam_wire.specs.Cutting.{fragments_of}
use Rattle.roam_wire.specs.Gatherers.{FragmentValue, Gathering, fragment_of}
use Rattle.roam_wire.specs.Fragments.{all_there}
use Rattle.roam_wire.specs.AnyOrder.{IsFragmentOf, GathersOf}
use Rattle.roam_wire.specs.Instructions.{DownValue, down_text}
use Rattle.roam_model.specs.Lists.{IsIn}
use Rattle.roam_model.specs.Texts.{datagram_with, datagrams_of}
use Rattle.roam_model.specs.Servers.{Record, Server, moment}
use Rattle.roam_model.specs.Ticks.{number_after, screen_to, holds_after, sends, down_to, fragments_to, after_sent, ticked_record, datagrams_to, Parcel, parcel, parcels_to, sent_by, is_tick_spent}
use Rattle.roam_model.specs.Worlds.{World, ToClient, Reply, Failed, datagram_at, after_server_tick}
use Rattle.roam_model.specs.Steps.{ServerTickStep, spent, ticked as did_tick, no_memory, Run}
use Rattle.roam_model.specs.Laws.{deliveries, IsFresh, DeliversAll, OneRoundSuffices}
use Rattle.roam_model.specs.Holds.{instruction_of, fragments_by, cuts_of, Holds}
use Rattle.roam_model.proofs.Members.{IsIn-map, IsIn-flat_map}
use Rattle.roam_model.proofs.Fragments.{numbered-last}
use Rattle.roam_model.proofs.ServerKeeps.{to_record, to_known, keeps-tick}
use Rattle.roam_model.proofs.Runs.{keeps-step}
use Rattle.roam_model.proofs.Gathered.{gathered_all, AllOf, Comes, all_gathered_anew}
use Rattle.roam_model.proofs.Places.{map_here, flat_here, enumerate_here, some_at, number_behind, late, no_later}
use Rattle.roam_model.proofs.Delivering.{Shows, IsOne, IsTop, some_same, deliver}
use Rattle.roam_wire.specs.declared.versions.Version.{Version}
use Rattle.roam_wire.specs.declared.datagrams.Kind.TheVariants.{ToClient as ToClientKind}
use Rattle.roam_wire.specs.Datagrams.{DatagramValue}

-- ---- the deliveries

-- the effect of a round of deliveries
record Went (w w'' : World) (cuts : ℕ → List (List ℕ)) (id n m : ℕ) (ks : List (ℕ × ℕ)) : Type 0 where
  ps : List FragmentValue
  all : AllOf cuts n ps
  gatherer : (w''.clients id).kept.gathering ≡ gathered_all (w.clients id).kept.gathering ps
  shows : Shows n m (w.clients id).kept.gathering (w.clients id).kept.receiver.newest.number
      → Shows n m (w''.clients id).kept.gathering (w''.clients id).kept.receiver.newest.number
  comes : (k later : ℕ) (d : DatagramValue) → IsIn (k, later) ks → datagram_at w.sent k ≡ Some d → Comes d.index ps

-- each of these is a fragment of instruction n
abbrev EachIsOne : World → ℕ → ℕ → List (ℕ × ℕ) → Type 0
EachIsOne w id n ks = (k later : ℕ) → IsIn (k, later) ks → (d : DatagramValue) × (datagram_at w.sent k ≡ Some d) × IsOne w id n d

top_at : (w' w : World) (id n m : ℕ) (v : DownValue) → w.server ≡ w'.server → IsTop w id n m v → IsTop w' id n m v
top_at w' w id n m v same t =
    record {
      told = subst (λ (q : Server). instruction_of (q.records id).instructions n ≡ Some v) same t.told;
      new = t.new;
      top = subst (λ (q : Server). m ≡ (newest (q.records id).sender).number) same t.top;
    }

one_at : (w' w : World) (id n : ℕ) → w.server ≡ w'.server
    → (w.clients id).kept.version ≡ (w'.clients id).kept.version → (d : DatagramValue) → IsOne w id n d → IsOne w' id n d
one_at w' w id n same version d o =
    record {
      version_is = o.version_is ∙ version;
      kind_is = o.kind_is;
      session_is = subst (λ (q : Server). d.session ≡ q.session) same o.session_is;
      client_is = o.client_is;
      number_is = o.number_is;
      fragment_of_it = subst (λ (q : Server). IsFragmentOf (cuts_of down_text (q.records id).instructions) (fragment_of d)) same o.fragment_of_it;
    }

goes : (w w'' : World) (slot id n m : ℕ) (v : DownValue) (ks : List (ℕ × ℕ)) (rs : List Reply) → Holds w → w.slots slot ≡ Some id
    → IsTop w id n m v → EachIsOne w id n ks
    → Run w (deliveries slot ks) rs w'' → (IsIn (Failed OutOfMemory) rs → ⊥)
    → Went w w'' (cuts_of down_text (w.server.records id).instructions) id n m ks
goes w w'' slot id n m v [] [] h s t each run fine =
    record {
      ps = [];
      all = tt;
      gatherer = ap (λ (q : World). (q.clients id).kept.gathering) run;
      shows = subst (λ (q : World). Shows n m (w.clients id).kept.gathering (w.clients id).kept.receiver.newest.number
          → Shows n m (q.clients id).kept.gathering (q.clients id).kept.receiver.newest.number) (sym run) (λ z. z);
      comes = (λ k later d i e. absurd i);
    }
goes w w'' slot id n m v [] (r ∷ rs) h s t each run fine = absurd run
goes w w'' slot id n m v (k ∷ ks) [] h s t each run fine = absurd run
goes w w'' slot id n m v (k ∷ ks) (r ∷ rs) h s t each run fine =
    let first = each k.0 k.1 (inl refl) in
    let one = deliver w run.0 slot k.0 k.1 id n m v first.0 r h s first.1 t first.2 run.1 (λ e. fine (inl e)) in
    let mid = run.0 in
    let h' = keeps-step w (ToClient slot k.0 k.1) r run.0 tt run.1 h in
    let t' = top_at run.0 w id n m v (sym one.server) t in
    let s' : run.0.slots slot ≡ Some id = ap (λ (q : ℕ → Option ℕ). q slot) one.slots ∙ s in
    let rest = goes run.0 w'' slot id n m v ks rs h' s' t'
    (λ k later i. let e = each k later (inr i) in
    (e.0, ap (λ (ds : List DatagramValue). datagram_at ds k) one.sent ∙ e.1, one_at run.0 w id n (sym one.server) (sym one.version) e.0 e.2)) run.2
    (λ i. fine (inr i)) in
    record {
      ps = fragment_of first.0 ∷ rest.ps;
      all = (
        first.2.number_is,
        first.2.fragment_of_it,
        subst
            (λ (q : Server). AllOf (cuts_of down_text (q.records id).instructions) n rest.ps) one.server rest.all,
      );
      gatherer = rest.gatherer ∙ ap (λ (g : Gathering). gathered_all g rest.ps) one.gatherer;
      shows = (λ old. rest.shows (one.shows old));
      comes = (λ j later d i e. elim i [
        | inl same ↦ (
            let number : k.0 ≡ j = ap (λ (q : ℕ × ℕ). q.0) same in
            let f : datagram_at w.sent j ≡ Some first.0 = subst (λ (q : ℕ). datagram_at w.sent q ≡ Some first.0) number first.1 in
            inl (ap (λ (q : DatagramValue). q.index) (some_same first.0 d (datagram_at w.sent j) f e))
            )
        | inr more ↦ inr (rest.comes j later d more (ap (λ (ds : List DatagramValue). datagram_at ds j) one.sent ∙ e))
      ]);
    }

-- ---- the datagrams of a tick to one instance

packed_id : (v : Version) (session client before id : ℕ) (fragments : List (List ℕ)) (d : DatagramValue)
    → IsIn d (datagrams_of v ToClientKind session client before id fragments) → d.id ≡ id
packed_id v session client before id fragments d i =
    let m = IsIn-map (datagram_with v ToClientKind session client before id (length fragments)) d (enumerate_from 0 fragments) i in ap
    (λ (q : DatagramValue). q.id) (sym m.2)

-- a datagram of the tick to this instance is one of those to its record
to_start : (s : Server) (now id : ℕ) (d : DatagramValue) → IsIn d (map (λ (p : Parcel). p.datagram) (sent_by s now)) → d.client ≡ id
    → IsIn id s.arrival × IsIn d (datagrams_to s.session id (s.records id) (number_after s now) (screen_to s now id) now)
to_start s now id d i same =
    let a = IsIn-map (λ (p : Parcel). p.datagram) d (sent_by s now) i in
    let f = IsIn-flat_map (parcels_to s now) a.0 s.arrival a.1 in
    let m = IsIn-map (parcel (s.records f.0).address) a.0
    (datagrams_to s.session f.0 (s.records f.0) (number_after s now) (screen_to s now f.0) now) f.2 in
    let is : m.0 ≡ d = ap (λ (y : Parcel). y.datagram) m.2 ∙ a.2 in
    let p = to_record s.session f.0 (s.records f.0) (number_after s now) (screen_to s now f.0) now m.0 m.1 in
    let at : f.0 ≡ id = sym p.client_is ∙ ap (λ (y : DatagramValue). y.client) is ∙ same in (
      subst (λ (k : ℕ). IsIn k s.arrival) at f.1,
      subst (λ (k : ℕ). IsIn d (datagrams_to s.session k (s.records k) (number_after s now) (screen_to s now k) now)) at
          (subst (λ (y : DatagramValue). IsIn y (datagrams_to s.session f.0 (s.records f.0) (number_after s now) (screen_to s now f.0)
          now)) is m.1),
    )

-- the record is sent to
sends_to : (session id : ℕ) (r : Record) (n : ℕ) (s : Screenshot) (now : ℕ) (d : DatagramValue) → IsIn d (datagrams_to session id r n s now)
    → (sends r n s now ≡ true) × (d.id ≡ length r.instructions + 1)
sends_to session id r n s now d i = go (sends r n s now) refl i
  where
    go : (b : Bool) → sends r n s now ≡ b → IsIn d
        (cond b (datagrams_of r.version ToClientKind session id r.datagrams (length r.instructions + 1) (fragments_to r n s now)) [])
        → (sends r n s now ≡ true) × (d.id ≡ length r.instructions + 1)
    go true e i = (e, packed_id r.version session id r.datagrams (length r.instructions + 1) (fragments_to r n s now) d i)
    go false e i = absurd i

-- the effect of a tick that sends to this instance
record IsRound (w w' : World) (id : ℕ) : Type 0 where
  holds : Holds w'
  slots : w'.slots ≡ w.slots
  v : DownValue
  n : ℕ
  top : IsTop w' id n (newest (w'.server.records id).sender).number v
  later : (w'.clients id).kept.gathering.id < n
  one : (k : ℕ) (d : DatagramValue) → IsFresh w w' id k d → IsOne w' id n d
  each : (i : ℕ) → i < length (cuts_of down_text (w'.server.records id).instructions n) → (k : ℕ) × (d : DatagramValue) × (d.index ≡ i)
      × IsFresh w w' id k d

-- the facts about a record that is sent to
sent_top : (r : Record) (n : ℕ) (s : Screenshot) (now : ℕ) → sends r n s now ≡ true
    → (instruction_of (ticked_record r n s now).instructions (length r.instructions + 1) ≡ Some (down_to r n s now))
    × ((down_to r n s now).new ≡ (newest (ticked_record r n s now).sender).number)
sent_top r n s now e =
    subst (λ (b : Bool). (instruction_of (cond b (after_sent r n s now) (record r { sender = holds_after r n s now })).instructions
    (length r.instructions + 1) ≡ Some (down_to r n s now))
    × ((down_to r n s now).new ≡ (newest (cond b (after_sent r n s now) (record r { sender = holds_after r n s now })).sender).number))
    (sym e)
    (numbered-last r.instructions (down_to r n s now), sym (marked_newest (holds_after r n s now).base (holds_after r n s now).later))

round_of : (w : World) (now id : ℕ) → is_tick_spent w.server now ≡ false → Holds w
    → (k : ℕ) (d : DatagramValue) → IsFresh w (after_server_tick w now) id k d → IsRound w (after_server_tick w now) id
round_of w now id unspent h k0 d0 some =
    let first = to_start w.server now id d0 (late w.sent new k0 d0 some.0 some.1) some.2 in
    let sends' = sends_to w.server.session id r n s now d0 first.1 in
    let t = sent_top r n s now sends'.0 in
    let low = (h.links id).gathers_down.low in
    record {
      holds = keeps-tick w now unspent h;
      slots = refl;
      v = down_to r n s now;
      n = length r.instructions + 1;
      top = record { told = t.0; new = t.1; top = refl };
      later = omega (arith, low);
      one = (λ k d f.
          let t = to_start w.server now id d (late w.sent new k d f.0 f.1) f.2 in
          let p = to_record w.server.session id r n s now d t.1 in
          record {
            version_is = p.version_is ∙ (h.fits id).version (to_known w.server.session id r n s now d t.1);
            kind_is = p.kind_is;
            session_is = p.session_is;
            client_is = f.2;
            number_is =
                (sends_to w.server.session id r n s now d t.1).1;
            fragment_of_it = p.fragment;
          });
      each = (λ i lt.
          let cuts : cuts_of down_text (ticked_record r n s now).instructions (length r.instructions + 1) ≡ fragments_of
          (down_text (down_to r n s now)) = ap (λ (o : Option DownValue). fragments_by down_text o) t.0 in
          let x = some_at (fragments_of (down_text (down_to r n s now))) i (subst (λ (xs : List (List ℕ)). i < length xs) cuts lt) in
          let z : 0 + i ≡ i = omega arith in
          let a = map_here make (i, x.0) (enumerate_from 0 (fragments_of (down_text (down_to r n s now))))
          (subst (λ (q : ℕ). IsIn (q, x.0) (enumerate_from 0 (fragments_of (down_text (down_to r n s now))))) z
          (enumerate_here 0 i x.0 (fragments_of (down_text (down_to r n s now))) x.1)) in
          let b : IsIn (mine i x.0) (datagrams_to w.server.session id r n s now) =
          subst (λ (b : Bool). IsIn (mine i x.0) (cond b
          (datagrams_of r.version ToClientKind w.server.session id r.datagrams (length r.instructions + 1) (fragments_to r n s now)) []))
          (sym sends'.0) a in
          let c = flat_here (parcels_to w.server now) id (parcel r.address (mine i x.0)) w.server.arrival first.0
          (map_here (parcel r.address) (mine i x.0) (datagrams_to w.server.session id r n s now) b) in
          let e = map_here (λ (p : Parcel). p.datagram) (parcel r.address (mine i x.0)) (sent_by w.server now) c in
          let place = number_behind w.sent new (mine i x.0) e in
          (place.0, mine i x.0, refl, (place.1, place.2, refl)));
    }
  where
    r : Record
    r = w.server.records id

    n : ℕ
    n = number_after w.server now

    s : Screenshot
    s = screen_to w.server now id

    new : List DatagramValue
    new = map (λ (p : Parcel). p.datagram) (sent_by w.server now)

    make : ℕ × List ℕ → DatagramValue
    make = datagram_with (w.server.records id).version ToClientKind w.server.session id (w.server.records id).datagrams (length (w.server.records id).instructions + 1)
        (length (fragments_to (w.server.records id) (number_after w.server now) (screen_to w.server now id) now))

    mine : ℕ → List ℕ → DatagramValue
    mine i x = make (i, x)

-- ---- the round is over

over : (w w' w'' : World) (slot id : ℕ) (ks : List (ℕ × ℕ)) (rs : List Reply) → w.slots slot ≡ Some id → IsRound w w' id
    → (k : ℕ) (d : DatagramValue) → IsFresh w w' id k d
    → DeliversAll w w' id ks → Run w' (deliveries slot ks) rs w'' → (IsIn (Failed OutOfMemory) rs → ⊥)
    → (w''.clients id).kept.receiver.newest.number ≡ (newest (w'.server.records id).sender).number
over w w' w'' slot id ks rs s round k0 d0 some all run fine =
    let m = (newest (w'.server.records id).sender).number in
    let each : EachIsOne w' id round.n ks = λ k later i. let j = all.just k later i in (j.0, j.1.1, round.one k j.0 j.1) in
    let went = goes w' w'' slot id round.n (newest (w'.server.records id).sender).number round.v ks rs round.holds
    (ap (λ (q : ℕ → Option ℕ). q slot) round.slots ∙ s) round.top each run fine in
    let of = (round.holds.links id).gathers_down.of in
    let later = round.later in
    let comes : (i : ℕ) → i < length (cuts_of down_text (w'.server.records id).instructions round.n) → Comes i went.ps = (λ i lt.
    let e = round.each i lt in
    let d = all.all e.0 e.1 e.3 in
    subst (λ (j : ℕ). Comes j went.ps) e.2 (went.comes e.0 d.0 e.1 d.1 e.3.1)) in
    let first = all.all k0 d0 some in
    let whole = finish went.ps went.all of later (d0.index, went.comes k0 first.0 d0 first.1 some.1) comes in
    went.shows (λ e f. absurd (omega (arith, e, later))) (ap (λ (g : Gathering). g.id) went.gatherer ∙ whole.1)
    (ap (λ (g : Gathering). all_there g.fragments) went.gatherer ∙ whole.0)
  where
    finish : {cuts : ℕ → List (List ℕ)} {n : ℕ} {g : Gathering} (ps : List FragmentValue) → AllOf cuts n ps → GathersOf cuts g → g.id < n
        → ((i : ℕ) × Comes i ps) → ((i : ℕ) → i < length (cuts n) → Comes i ps)
        → (all_there (gathered_all g ps).fragments ≡ true) × ((gathered_all g ps).id ≡ n)
    finish [] all of lt some each = absurd some.1
    finish {cuts} {n} {g} (p ∷ ps) all of lt some each = all_gathered_anew cuts n g p ps all of lt each

pub one_round : (w : World) → Holds w → OneRoundSuffices w
one_round w h slot id now ks reply w' rs w'' s step fine some all run ok = go step
  where
    go : ServerTickStep w now reply w' → (w''.clients id).kept.receiver.newest.number ≡ (newest (w'.server.records id).sender).number
    go (spent x e is) = absurd (no_later w.sent some.0 some.1 some.2.0
        (subst (λ (q : World). datagram_at q.sent some.0 ≡ Some some.1) is some.2.1))
    go (did_tick x e is) =
        over w w' w'' slot id ks rs s
        (subst (λ (q : World). IsRound w q id) (sym is)
        (round_of w (moment w.server now) id x h some.0 some.1 (subst (λ (q : World). IsFresh w q id some.0 some.1) is some.2)))
        some.0 some.1 some.2 all run ok
    go (no_memory e is) = absurd (fine e)
