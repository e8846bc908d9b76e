-- One delivery of a fragment of the newest instruction to an instance.
use Rattle.std.proofs.Common.{◌≡◌, ℕ, List, Option, Some, None, Bool, true, false, refl, sym, ap, ◌∙◌, subst, arith, cond}
use Rattle.std.specs.Prelude.{nat_eq, not}
use Rattle.std.proofs.lemmas.Bool.Decides.{nat_tests}
use Rattle.roam_cells.specs.declared.faults.Fault.TheVariants.{OutOfMemory, BadDatagram, OtherSession, OtherClient}
use Rattle.roam_cells.specs.declared.faults.Reason.TheVariants as reason
use Rattle.roam_sync.specs.Senders.{newest}
use Rattle.roam_sync.specs.Links.{Delivers}
use Rattle.roam_sync.proofs.Rounds.{one_round}
use Rattle.roam_wire.specs.Cutting.{joined_fragments}
use Rattle.roam_wire.specs.Gatherers.{Gathering, Answer, Part, Old, Whole, gather, fragment_of}
use Rattle.roam_wire.specs.Fragments.{all_there}
use Rattle.roam_wire.specs.AnyOrder.{IsFragmentOf, GathersWell, after}
use Rattle.roam_wire.specs.Instructions.{DownValue, down_text}
use Rattle.roam_wire.proofs.Arrive.{well}
use Rattle.roam_wire.proofs.Cuts.{joined-fragments}
use Rattle.roam_model.specs.Versions.{is_same_version, applied_by}
use Rattle.roam_model.proofs.Versions.{is_same-refl}
use Rattle.roam_model.specs.Lists.{IsIn}
use Rattle.roam_model.specs.Texts.{update_in, SaysDown, is_to_server}
use Rattle.roam_model.specs.Clients.{Kept, Client, moment_of}
use Rattle.roam_model.specs.ClientArrivals.{Hearing, arriving, arriving_gathered, after_fragment, after_whole}
use Rattle.roam_model.specs.Arrival.{Arrival, turned_away, noted, completed}
use Rattle.roam_model.specs.Worlds.{World, Reply, Failed, datagram_at, with_kept}
use Rattle.roam_model.specs.Steps.{ToClientStep, empty_slot, not_sent, refused, fragment, unread, bad_change, whole, no_memory}
use Rattle.roam_model.specs.Holds.{instruction_of, fragments_by, cuts_of, Tells, Acks, Holds}
use Rattle.roam_model.proofs.Members.{put_same}
use Rattle.roam_model.proofs.Fragments.{numbered-is_in}
use Rattle.roam_model.proofs.Comes.{says_down}
use Rattle.roam_model.proofs.Follows.{good_change}
use Rattle.roam_model.proofs.Gathered.{IsPart, IsSame, is_part}
use Rattle.roam_wire.specs.declared.versions.Version.{Version}
use Rattle.roam_wire.specs.declared.datagrams.Kind.TheVariants.{ToClient}
use Rattle.roam_wire.specs.Datagrams.{DatagramValue}

-- if instruction n came whole, the number that is shown is m
abbrev pub Shows : ℕ → ℕ → Gathering → ℕ → Type 0
Shows n m g shown = g.id ≡ n → all_there g.fragments ≡ true → shown ≡ m

-- a fragment of instruction n to this instance
pub record IsOne (w : World) (id n : ℕ) (d : DatagramValue) : Type 0 where
  pub version_is : d.version ≡ (w.clients id).kept.version
  pub kind_is : d.kind ≡ ToClient
  pub session_is : d.session ≡ w.server.session
  pub client_is : d.client ≡ id
  pub number_is : d.id ≡ n
  pub fragment_of_it : IsFragmentOf (cuts_of down_text (w.server.records id).instructions) (fragment_of d)

-- instruction n to this instance is v, which leads to the newest number m
pub record IsTop (w : World) (id n m : ℕ) (v : DownValue) : Type 0 where
  pub told : instruction_of (w.server.records id).instructions n ≡ Some v
  pub new : v.new ≡ m
  pub top : m ≡ (newest (w.server.records id).sender).number

-- the effect of a fragment of instruction n: the gatherer h, and if it came whole the text of v
abbrev Leaves : ℕ → ℕ → ℕ → Gathering → Gathering → DownValue → Arrival Hearing → Type 0
Leaves n m shown old h v (turned_away f) = ⊥
Leaves n m shown old h v (noted how g) = (g ≡ h) × (Shows n m old shown → Shows n m g shown)
Leaves n m shown old h v (completed g text) = (g ≡ h) × (text ≡ down_text v)

gathered_leaves : (w : World) (id n m shown : ℕ) (v : DownValue) (d : DatagramValue) → IsTop w id n m v → IsOne w id n d
    → (x : Option (Answer × Gathering))
    → GathersWell (cuts_of down_text (w.server.records id).instructions) (w.clients id).kept.gathering (fragment_of d) x → IsPart x
    → IsSame (w.clients id).kept.gathering x
    → Leaves n m shown (w.clients id).kept.gathering (after (w.clients id).kept.gathering x) v (arriving_gathered x)
gathered_leaves w id n m shown v d t is None g p s = absurd g
gathered_leaves w id n m shown v d t is (Some (Part, h)) g p s = (refl, (λ o a b. absurd (let f : true ≡ false = sym b ∙ p in cc)))
gathered_leaves w id n m shown v d t is (Some (Old, h)) g p s = (refl, (λ o. subst (λ (k : Gathering). Shows n m k shown) (sym s) o))
gathered_leaves w id n m shown v d t is (Some (Whole text, h)) g p s =
    let told : instruction_of (w.server.records id).instructions d.id ≡ Some v = ap (instruction_of (w.server.records id).instructions) is.number_is
    ∙ t.told in
    (refl, g.2 ∙ ap (λ (o : Option DownValue). joined_fragments (fragments_by down_text o)) told ∙ joined-fragments (down_text v))

arriving_leaves : (w : World) (id n m shown : ℕ) (v : DownValue) (d : DatagramValue) → Holds w → IsTop w id n m v → IsOne w id n d
    → Leaves n m shown (w.clients id).kept.gathering
    (after (w.clients id).kept.gathering (gather (w.clients id).kept.gathering (fragment_of d))) v
    (arriving w.server.session id (w.clients id).kept d)
arriving_leaves w id n m shown v d h t is =
    go (is_to_server d.kind) (ap is_to_server is.kind_is) (nat_eq d.session w.server.session)
    (same d.session w.server.session is.session_is) (nat_eq d.client id) (same d.client id is.client_is)
    (is_same_version (w.clients id).kept.version d.version)
    (subst (λ (v : Version). is_same_version (w.clients id).kept.version v ≡ true) (sym is.version_is)
    (is_same-refl (w.clients id).kept.version))
  where
    same : (a b : ℕ) → a ≡ b → nat_eq a b ≡ true
    same a b e = grind (arith, nat_tests)

    go : (a : Bool) → a ≡ false → (b : Bool) → b ≡ true → (e : Bool) → e ≡ true → (f : Bool) → f ≡ true
        → Leaves n m shown (w.clients id).kept.gathering
        (after (w.clients id).kept.gathering (gather (w.clients id).kept.gathering (fragment_of d))) v
        (cond a (turned_away (BadDatagram reason.Kind))
        (cond (not b) (turned_away OtherSession) (cond (not e) (turned_away OtherClient) (cond (not f) (turned_away (BadDatagram reason.Version))
        (arriving_gathered (gather (w.clients id).kept.gathering (fragment_of d)))))))
    go true x b y e z f q = absurd (cc)
    go false x false y e z f q = absurd (cc)
    go false x true y false z f q = absurd (cc)
    go false x true y true z false q = absurd (cc)
    go false x true y true z true q =
        let part = is_part (w.clients id).kept.gathering (fragment_of d) in
        gathered_leaves w id n m shown v d t is (gather (w.clients id).kept.gathering (fragment_of d))
        (well (cuts_of down_text (w.server.records id).instructions) (w.clients id).kept.gathering (fragment_of d)
        (h.links id).gathers_down.of
        is.fragment_of_it) part.0 part.1

-- one delivery
pub record Delivered (w w' : World) (id n m : ℕ) (d : DatagramValue) : Type 0 where
  pub server : w'.server ≡ w.server
  pub slots : w'.slots ≡ w.slots
  pub sent : w'.sent ≡ w.sent
  pub version : (w'.clients id).kept.version ≡ (w.clients id).kept.version
  pub gatherer : (w'.clients id).kept.gathering ≡ after (w.clients id).kept.gathering (gather (w.clients id).kept.gathering (fragment_of d))
  pub shows : Shows n m (w.clients id).kept.gathering (w.clients id).kept.receiver.newest.number
      → Shows n m (w'.clients id).kept.gathering (w'.clients id).kept.receiver.newest.number

pub some_same : {X : Type 0} (x y : X) (o : Option X) → o ≡ Some x → o ≡ Some y → x ≡ y
some_same x y o e f = let z : Some x ≡ Some y = sym e ∙ f in cc

-- the arrival at the instance in the slot is the one in the step
same_arrival : (w : World) (id id' : ℕ) (d d' : DatagramValue) (a : Arrival Hearing) → id ≡ id' → d ≡ d'
    → arriving w.server.session id' (w.clients id').kept d' ≡ a
    → arriving w.server.session id (w.clients id).kept d ≡ a
same_arrival w id id' d d' a i j e = (λ k. arriving w.server.session (i k) (w.clients (i k)).kept (j k)) ∙ e

pub deliver : (w w' : World) (slot k now id n m : ℕ) (v : DownValue) (d : DatagramValue) (r : Reply) → Holds w → w.slots slot ≡ Some id
    → datagram_at w.sent k ≡ Some d
    → IsTop w id n m v → IsOne w id n d → ToClientStep w slot k now r w' → ((r ≡ Failed OutOfMemory) → ⊥) → Delivered w w' id n m d
deliver w w' slot k now id n m v d r h s at t is step fine = go step
  where
    l : Leaves n m (w.clients id).kept.receiver.newest.number (w.clients id).kept.gathering
        (after (w.clients id).kept.gathering (gather (w.clients id).kept.gathering (fragment_of d))) v
        (arriving w.server.session id (w.clients id).kept d)
    l = arriving_leaves w id n m (w.clients id).kept.receiver.newest.number v d h t is

    leaves : (id' : ℕ) (d' : DatagramValue) (a : Arrival Hearing) → w.slots slot ≡ Some id' → datagram_at w.sent k ≡ Some d'
        → arriving w.server.session id' (w.clients id').kept d' ≡ a
        → Leaves n m (w.clients id).kept.receiver.newest.number (w.clients id).kept.gathering
        (after (w.clients id).kept.gathering (gather (w.clients id).kept.gathering (fragment_of d))) v a
    leaves id' d' a x y e =
        subst (Leaves n m (w.clients id).kept.receiver.newest.number (w.clients id).kept.gathering
        (after (w.clients id).kept.gathering (gather (w.clients id).kept.gathering (fragment_of d))) v)
        (same_arrival w id id' d d' a (some_same id id' (w.slots slot) s x) (some_same d d' (datagram_at w.sent k) at y) e) l

    sent_one : IsIn v (w.server.records id).instructions
    sent_one = numbered-is_in (w.server.records id).instructions n v t.told

    says_it : (text : List ℕ) (u : DownValue) → text ≡ down_text v → SaysDown text u → v ≡ u
    says_it text u e says = says_down (w.server.records id).instructions text u v (h.links id).downs sent_one e says

    go : ToClientStep w slot k now r w' → Delivered w w' id n m d
    go (empty_slot x e z) = absurd (let f : Some id ≡ None = sym s ∙ x in cc)
    go (not_sent x e z) = absurd (let f : Some d ≡ None = sym at ∙ x in cc)
    go (refused id' d' f x y a e z) = absurd (leaves id' d' (turned_away f) x y a)
    go (fragment id' d' how g x y a e z) =
        let i = some_same id id' (w.slots slot) s x in
        let p = leaves id' d' (noted how g) x y a in
        let z' : w' ≡ with_kept w id (after_fragment (w.clients id).kept (moment_of (w.clients id).kept now) g) =
        subst (λ (q : ℕ). w' ≡ with_kept w q (after_fragment (w.clients q).kept (moment_of (w.clients q).kept now) g)) (sym i) z in
        let here : (w'.clients id).kept ≡ after_fragment (w.clients id).kept (moment_of (w.clients id).kept now) g =
        ap (λ (q : World). (q.clients id).kept) z' ∙ ap (λ (c : Client). c.kept) (put_same w.clients id _) in
        record {
          server = ap (λ (q : World). q.server) z';
          slots = ap (λ (q : World). q.slots) z';
          sent = ap (λ (q : World). q.sent) z';
          version = ap (λ (q : Kept). q.version) here;
          gatherer = ap (λ (q : Kept). q.gathering) here ∙ p.0;
          shows = (λ old. subst (λ (q : Kept). Shows n m q.gathering q.receiver.newest.number) (sym here) (p.1 old));
        }
    go (unread id' d' g text why x y a none e z) =
        let p = leaves id' d' (completed g text) x y a in
        absurd (none.none v ((h.links id).downs v sent_one) p.1)
    go (bad_change id' d' g text u base x y a says new there none e z) =
        let i = some_same id id' (w.slots slot) s x in
        let p = leaves id' d' (completed g text) x y a in
        let same = says_it text u p.1 says in
        absurd (good_change w id u base (subst (λ (q : DownValue). IsIn q (w.server.records id).instructions) same sent_one)
        (subst (λ (q : ℕ). Rattle.roam_sync.specs.Receivers.state_at u.old
        (Rattle.roam_sync.specs.Receivers.pairs (w.clients q).kept.receiver) ≡ Some base) (sym i) there)
        (subst (λ (q : ℕ). applied_by (w.clients q).kept.version base u.change ≡ None) (sym i) none) h)
    go (whole id' d' g text u q x y a says heard e z) =
        let i = some_same id id' (w.slots slot) s x in
        let p = leaves id' d' (completed g text) x y a in
        let same = says_it text u p.1 says in
        let z' : w' ≡ with_kept w id (after_whole (w.clients id).kept (moment_of (w.clients id).kept now) g q u) =
        subst (λ (j : ℕ). w' ≡ with_kept w j (after_whole (w.clients j).kept (moment_of (w.clients j).kept now) g q u)) (sym i) z in
        let here : (w'.clients id).kept ≡ after_whole (w.clients id).kept (moment_of (w.clients id).kept now) g q u =
        ap (λ (j : World). (j.clients id).kept) z' ∙ ap (λ (c : Client). c.kept) (put_same w.clients id _) in
        let heard' : Delivers (applied_by (w.clients id).kept.version) (w.clients id).kept.receiver (update_in v) q =
        subst (λ (j : ℕ). Delivers (applied_by (w.clients j).kept.version) (w.clients j).kept.receiver (update_in v) q) (sym i)
        (subst (λ (b : DownValue). Delivers (applied_by (w.clients id').kept.version) (w.clients id').kept.receiver (update_in b) q)
        (sym same) heard) in
        let top = one_round (w.server.records id).sender (w.clients id).kept.receiver (Tells (w.server.records id).instructions)
        (Acks (w.clients id).instructions) (h.links id).in_step (applied_by (w.clients id).kept.version) q (update_in v)
        (v, sent_one, refl) (t.new ∙ t.top) heard' in
        record {
          server = ap (λ (j : World). j.server) z';
          slots = ap (λ (j : World). j.slots) z';
          sent = ap (λ (j : World). j.sent) z';
          version = ap (λ (j : Kept). j.version) here;
          gatherer = ap (λ (j : Kept). j.gathering) here ∙ p.0;
          shows = (λ old b f. ap (λ (j : Kept). j.receiver.newest.number) here ∙ top.1 ∙ sym t.top);
        }
    go (no_memory e z) = absurd (fine e)
