-- Consequences of the invariant.
use Rattle.std.proofs.Common.{◌≡◌, ℕ, zero, suc, ◌+◌, ◌-◌, ◌<◌, ◌≤◌, ◌⊎◌, List, [], ◌∷◌, ◌++◌, length, take, drop, Some, None, Bool, true, false, refl, sym, ap, ◌∙◌, subst, inl, inr, arith, cond, length-append, append-nil}
use Rattle.std.specs.Prelude.{nat_lt, slice_get, map, ◌&&◌, ◌||◌}
use Rattle.std.proofs.lemmas.Bool.Decides.{nat_tests}
use Rattle.roam_cells.specs.declared.faults.Fault.TheVariants.{BadChange}
use Rattle.roam_screens.specs.Screenshot.{Screenshot}
use Rattle.roam_sync.specs.declared.receivers.Step.TheVariants as step
use Rattle.roam_sync.specs.Senders.{newest, count, offered}
use Rattle.roam_sync.specs.Receivers.{pairs, state_at}
use Rattle.roam_sync.proofs.Sending.{newest_of_more}
use Rattle.roam_sync.specs.TrueLinks.{HoldsTrueStates}
use Rattle.roam_sync.proofs.TrueStates.{true_at_first, found_true}
use Rattle.roam_session.specs.Sessions.{SessionSize, Entry, Did}
use Rattle.roam_sync.proofs.Rounds.{old_or_new}
use Rattle.roam_wire.specs.AnyOrder.{IsFragmentOf}
use Rattle.roam_wire.specs.Instructions.{DownValue, down_text, up_text, UpValue}
use Rattle.roam_acts.specs.declared.acts.Act.{Act}
use Rattle.roam_acts.specs.Takers.{fresh_of}
use Rattle.roam_wire.specs.Gatherers.{Gathering, fragment_of}
use Rattle.roam_model.proofs.Members.{put_other}
use Rattle.roam_model.specs.Clients.{shown_number}
use Rattle.roam_model.specs.ServerArrivals.{new_acts, after_acts, room_for}
use Rattle.roam_model.specs.Versions.{applied_by}
use Rattle.roam_model.specs.Numbers.{first_screen, IsScreenOf, acts_of, screen}
use Rattle.roam_model.specs.Texts.{update_in, is_to_server, Address, is_watching, SaysUp}
use Rattle.roam_model.specs.Servers.{Note, Record, no_record, moment, Server}
use Rattle.roam_model.specs.Ticks.{makes, is_live, holds_after, sends, after_sent, number_after, screen_to}
use Rattle.roam_model.specs.ClientArrivals.{IsGap, hearing_of, step_of}
use Rattle.roam_model.specs.Worlds.{World, Heard, Failed, datagram_at, with_server}
use Rattle.roam_model.specs.Steps.{ToClientStep, refused, empty_slot, no_memory, not_sent, fragment, unread, bad_change, whole, ToServerStep, all_taken, no_room, no_memory_at_act}
use Rattle.roam_model.specs.Limits.{Limits}
use Rattle.roam_model.specs.Laws.{HoldTrueScreens, HoldAtMostEight, LeavesNoGap, Headline, NamesOneText, RepliesToLatest, OffersNewest, IsSameBut, WatchersTakeNoPart, WatchersDisturbNothing, StartsAgree, RecordsFit, KeepsAll}
use Rattle.roam_model.specs.Holds.{cuts_of, Tells, Acks, IsFragment, Holds, Counts}
use Rattle.roam_model.proofs.Screens.{one_screen, first_is}
use Rattle.roam_model.proofs.Acting.{front_is}
use Rattle.roam_model.proofs.Comes.{ArrivesWell}
use Rattle.roam_model.proofs.Keeps.{newest_true}
use Rattle.roam_model.proofs.ServerKeeps.{top_true, in_tick}
use Rattle.roam_model.proofs.Runs.{arrives, arrived, reach_low}
use Rattle.roam_wire.specs.declared.versions.Version.{Version}
use Rattle.roam_wire.specs.Datagrams.{DatagramValue}

pub headline : (w : World) → Holds w → Headline w
headline w h =
    let is = (λ (id : ℕ). newest_true (IsScreenOf (w.clients id).kept.version w.server.size w.server.log w.server.cuts)
    (w.clients id).kept.receiver (h.links id).truth.receiver) in (
      record { made = (λ id. (is id).made); same = (λ id. (is id).same) },
      record {
        front = (λ id. front_is (acts_of id w.server.log) (w.clients id).typed (w.server.records id).taken (h.links id).acts.front);
        count = (λ id. (h.links id).acts.count);
      },
    )

-- the first screen is one screen in each version
first_held : (v : Version) (size : SessionSize) (log : List Entry) (cuts : List ℕ)
    → HoldsTrueStates (IsScreenOf v size log cuts) no_record.sender
unfolding no_record
first_held v size log cuts = (true_at_first (applied_by v) (IsScreenOf v size log cuts) first_screen (Tells []) (first_is v size log cuts)
    (λ u t. t.1)).sender

pub hold_true : (w : World) → Holds w → HoldTrueScreens w
hold_true w h = record { receivers = (λ id. (h.links id).truth.receiver); senders = (λ id. go id (w.server.records id).known refl) }
  where
    go : (id : ℕ) (b : Bool) → (w.server.records id).known ≡ b
        → HoldsTrueStates (IsScreenOf (w.server.records id).version w.server.size w.server.log w.server.cuts) (w.server.records id).sender
    go id true e = subst (λ (v : Version). HoldsTrueStates (IsScreenOf v w.server.size w.server.log w.server.cuts)
        (w.server.records id).sender) (sym ((h.fits id).version e)) (h.links id).truth.sender
    go id false e = subst (λ (r : Record). HoldsTrueStates (IsScreenOf (w.server.records id).version w.server.size w.server.log w.server.cuts)
        r.sender) (sym ((h.fits id).none e)) (first_held (w.server.records id).version w.server.size w.server.log w.server.cuts)

pub at_most_eight : (w : World) → Holds w → HoldAtMostEight w
at_most_eight w h =
    record {
      receivers = (λ id. let few = (h.links id).in_step.receiver_few in omega
          (arith, few, length-append (w.clients id).kept.receiver.earlier ((w.clients id).kept.receiver.newest ∷ [])));
      senders = (λ id. (h.links id).in_step.sender_few);
    }

-- a diff of an instruction that was sent is a good one
pub good_change : (w : World) (id : ℕ) (v : DownValue) (base : Screenshot)
    → Rattle.roam_model.specs.Lists.IsIn v (w.server.records id).instructions
    → state_at v.old (pairs (w.clients id).kept.receiver) ≡ Some base
    → applied_by (w.clients id).kept.version base v.change ≡ None → Holds w → ⊥
good_change w id v base sent at none h =
    let t = (h.links id).truth in
    let leads = t.updates (update_in v) (v, sent, refl) in
    let mine : IsScreenOf (w.clients id).kept.version w.server.size w.server.log w.server.cuts v.old base =
    found_true (IsScreenOf (w.clients id).kept.version w.server.size w.server.log w.server.cuts) v.old
    (pairs (w.clients id).kept.receiver) base t.receiver at in
    let same : base ≡ leads.base =
    one_screen (w.clients id).kept.version w.server.size w.server.log w.server.cuts v.old base leads.base mine leads.from_true in
    let no : None ≡ Some leads.state = sym none ∙ ap (λ b. applied_by (w.clients id).kept.version b v.change) same ∙ leads.leads in
    cc

no_gap_for : (w : World) (id : ℕ) (v : DownValue) → Rattle.roam_model.specs.Lists.IsIn v (w.server.records id).instructions → Holds w
    → hearing_of (step_of (w.clients id).kept v) ≡ IsGap → ⊥
no_gap_for w id v sent h e =
    let l = (h.links id).in_step in
    elim (old_or_new (w.server.records id).sender (w.clients id).kept.receiver (Tells (w.server.records id).instructions)
    (Acks (w.clients id).instructions) l (update_in v) (v, sent, refl)) [
      | inl old ↦ (let f : hearing_of step.Old ≡ IsGap = ap hearing_of (sym old.0) ∙ e in cc)
      | inr new ↦ (let f : hearing_of step.New ≡ IsGap = ap hearing_of (sym new) ∙ e in cc)
    ]

pub no_gap : (w : World) → Holds w → LeavesNoGap w
no_gap w h slot k now r w' s = go s
  where
    go : ToClientStep w slot k now r w' → ((r ≡ Heard IsGap) → ⊥) × ((r ≡ Failed BadChange) → ⊥)
    go (empty_slot x e is) = ((λ z. cc), (λ z. cc))
    go (not_sent x e is) = ((λ z. cc), (λ z. cc))
    go (refused id d f x y z e is) =
        let c = subst (ArrivesWell (w.server.records id).instructions) z (arrives w id k d y h) in
        ((λ q. cc), (λ q. c (cc)))
    go (fragment id d how g x y z e is) =
        let c = subst (ArrivesWell (w.server.records id).instructions) z (arrives w id k d y h) in
        ((λ q. c.0 (cc)), (λ q. cc))
    go (unread id d g text why x y z a e is) = ((λ q. cc), (λ q. cc))
    go (bad_change id d g text v base x y z a b at none e is) =
        let c = subst (ArrivesWell (w.server.records id).instructions) z (arrives w id k d y h) in
        ((λ q. cc), (λ q. good_change w id v base (arrived w id text v c.1 a h) at none h))
    go (whole id d g text v q x y z a b e is) =
        let c = subst (ArrivesWell (w.server.records id).instructions) z (arrives w id k d y h) in
        ((λ p. no_gap_for w id v (arrived w id text v c.1 a h) h (cc)), (λ p. cc))
    go (no_memory e is) = ((λ z. cc), (λ z. cc))

pub replies_to_latest : (w : World) → Holds w → RepliesToLatest w
replies_to_latest w h now p i =
    let t = in_tick w.server now p i in
    t.to ∙ ap (λ (b : Note). b.source) (sym (h.links p.datagram.client).notes)

same_text : (cuts : ℕ → List (List ℕ)) (d e : DatagramValue) → d.id ≡ e.id → IsFragmentOf cuts (fragment_of d) → IsFragmentOf cuts (fragment_of e)
    → (d.count ≡ e.count) × (d.index ≡ e.index → d.payload ≡ e.payload)
same_text cuts d e n a b =
    let same = ap (λ (k : ℕ). cuts k) n in (
      a.count ∙ ap length same ∙ sym b.count,
      (λ i. let f : Some d.payload ≡ Some e.payload = sym a.there ∙ ap (λ (xs : List (List ℕ)). slice_get xs d.index) same
          ∙ ap (slice_get (cuts e.id)) i ∙ b.there in cc),
    )

pub one_text : (w : World) → Holds w → NamesOneText w
one_text w h d e i j kind client n =
    go (is_to_server d.kind) (h.fragments d i) (subst (λ (k : ℕ). IsFragment (is_to_server d.kind) e (w.server.records k) (w.clients k)) (sym client)
    (subst (λ (to : Bool). IsFragment to e (w.server.records e.client) (w.clients e.client)) (sym kind) (h.fragments e j)))
  where
    go : (to : Bool) → IsFragment to d (w.server.records d.client) (w.clients d.client)
        → IsFragment to e (w.server.records d.client) (w.clients d.client)
        → (d.count ≡ e.count) × (d.index ≡ e.index → d.payload ≡ e.payload)
    go false a b = same_text (cuts_of down_text (w.server.records d.client).instructions) d e n a b
    go true a b = same_text (cuts_of up_text (w.clients d.client).instructions) d e n a b

-- ---- the newest number is offered

offered_newest : (r : Record) (n : ℕ) (s : Screenshot) (now : ℕ) → is_live r now ≡ true → (newest r.sender).number ≤ n
    → (count r.sender < 8) ⊎ ((newest r.sender).number ≡ n) → (newest (holds_after r n s now)).number ≡ n
unfolding holds_after
offered_newest r n s now live low or = go (nat_lt (newest r.sender).number n) refl (nat_lt (count r.sender) 8) refl
  where
    go : (a : Bool) → nat_lt (newest r.sender).number n ≡ a → (b : Bool) → nat_lt (count r.sender) 8 ≡ b
        → (newest (cond (is_live r now && nat_lt (newest r.sender).number n && nat_lt (count r.sender) 8) (offered r.sender n s)
        r.sender)).number ≡ n
    go true x true y = rw (live, x, y) (ap (λ h. h.number)
        (newest_of_more r.sender.base r.sender.later (record { number = n; state = s; sent = false })))
    go true x false y =
        let lt : (newest r.sender).number < n = grind (arith, nat_tests) in
        let ge : 8 ≤ count r.sender = grind (arith, nat_tests) in
        absurd (elim or [ inl few ↦ omega (arith, few, ge) | inr e ↦ omega (arith, e, lt) ])
    go false x b y = let ge : n ≤ (newest r.sender).number = grind (arith, nat_tests) in rw (live, x) (omega (arith, ge, low))

pub offers_newest : (w : World) → Holds w → OffersNewest w
offers_newest w h id now live or =
    let r = w.server.records id in
    let top = (top_true (IsScreenOf (w.clients id).kept.version w.server.size w.server.log w.server.cuts) r.sender
    (h.links id).truth.sender).made in
    let low : (newest r.sender).number ≤ number_after w.server (moment w.server now) = grows (makes w.server (moment w.server now)) top in
    let n = number_after w.server (moment w.server now) in
    let s = screen_to w.server (moment w.server now) id in
    go (sends r n s (moment w.server now)) (offered_newest r n s (moment w.server now) live low or)
  where
    grows : {k : ℕ} (b : Bool) → k ≤ length w.server.cuts → k ≤ length (cond b (w.server.cuts ++ length w.server.log ∷ []) w.server.cuts)
    grows true le = omega (arith, length-append w.server.cuts (length w.server.log ∷ []))
    grows false le = le

    go : (b : Bool) → (newest (holds_after (w.server.records id) (number_after w.server (moment w.server now))
        (screen_to w.server (moment w.server now) id) (moment w.server now))).number ≡ number_after w.server (moment w.server now)
        → (newest (cond b (after_sent (w.server.records id) (number_after w.server (moment w.server now))
        (screen_to w.server (moment w.server now) id) (moment w.server now))
        (record (w.server.records id) {
          sender = holds_after (w.server.records id) (number_after w.server (moment w.server now))
              (screen_to w.server (moment w.server now) id) (moment w.server now);
        })).sender).number ≡ number_after w.server
        (moment w.server now)
    go true e = Rattle.roam_sync.proofs.Ends.marked_newest
        (holds_after (w.server.records id) (number_after w.server (moment w.server now)) (screen_to w.server (moment w.server now) id)
        (moment w.server now)).base (holds_after (w.server.records id) (number_after w.server (moment w.server now))
        (screen_to w.server (moment w.server now) id) (moment w.server now)).later ∙ e
    go false e = e

-- ---- all of it together

pub starts_agree : (w : World) → Holds w → StartsAgree w
starts_agree w h id j version number =
    let a = (headline w h).0 in
    a.same id
    ∙ ap (λ (v : Version). screen v w.server.size w.server.log w.server.cuts (shown_number (w.clients id))) version
    ∙ ap (λ (n : ℕ). screen (w.clients j).kept.version w.server.size w.server.log w.server.cuts n) number
    ∙ sym (a.same j)

pub records_fit : (w : World) → Holds w → RecordsFit w
records_fit w h id known = let f = h.fits id in (f.made known, f.version known, f.watches known)

pub all_of_it : (w : World) → Holds w → KeepsAll w
all_of_it w h =
    record {
      updates = (λ id v i. let t = (h.links id).truth.updates (update_in v) (v, i, refl) in (
        t.from_true.made,
        t.to_true.made,
        ap (λ (s : Screenshot). applied_by (w.clients id).kept.version s v.change) (sym t.from_true.same) ∙ t.leads
            ∙ ap Some t.to_true.same,
      ));
      ids = one_text w h;
      pairs = hold_true w h;
      step = (λ id. record {
        base = (h.links id).in_step.base_there;
        later = (h.links id).in_step.from_base;
        gathered = (h.links id).gathers_down.low;
      });
      known = (λ id v i. ((h.links id).in_step.told (update_in v) (v, i, refl)).known);
      count = (headline w h).1;
    }

-- ---- instances that only watch

pub watchers_take_no_part : (w : World) → Holds w → WatchersTakeNoPart w
watchers_take_no_part w h id watches =
    let none = (h.watchers id watches).0 in
    (none, (h.links id).acts.front ∙ ap (take (w.server.records id).taken) none ∙ take_none (w.server.records id).taken)
  where
    take_none : (n : ℕ) → take {A = Rattle.roam_acts.specs.declared.acts.Act.Act} n [] ≡ []
    take_none zero = refl
    take_none (suc n) = refl

-- no acts are new of none
pub fresh_none : (taken first : ℕ) (acts : List Act) → acts ≡ [] → fresh_of taken first acts ≡ []
fresh_none taken first acts none = ap (fresh_of taken first) none ∙ go (nat_lt (taken + 1) first) (taken + 1 - first)
  where
    drop_none : (n : ℕ) → drop {A = Act} n [] ≡ []
    drop_none zero = refl
    drop_none (suc n) = refl

    go : (b : Bool) (n : ℕ) → cond b [] (drop {A = Act} n []) ≡ []
    go true n = refl
    go false n = drop_none n

-- the server after an instruction without acts
pub same_acts : (s : Server) (d : DatagramValue) (from : Address) (now : ℕ) (g : Gathering) (u : UpValue) (n : ℕ) → u.acts ≡ [] → n ≡ 0
    → IsSameBut d.client s (after_acts s d from now g u n)
same_acts s d from now g u n none nil =
    record {
      size = refl;
      log = ap (λ (k : ℕ). s.log ++ map (Did d.client) (take k (new_acts s d u))) nil ∙ append-nil s.log;
      cuts = refl;
      made_at = refl;
      input = ap (λ (k : ℕ). s.input || nat_lt 0 k) nil ∙ or_false s.input;
      records = (λ j other. put_other s.records d.client _ j other);
    }
  where
    or_false : (b : Bool) → (b || false) ≡ b
    or_false true = refl
    or_false false = refl

pub watchers_disturb_nothing : (w : World) → WatchersDisturbNothing w
watchers_disturb_nothing w k from now d r w' at watches step = go step
  where
    same_world : w' ≡ w → IsSameBut d.client w.server w'.server
    same_world is = subst (λ (q : World). IsSameBut d.client w.server q.server) (sym is)
        (record { size = refl; log = refl; cuts = refl; made_at = refl; input = refl; records = (λ j other. refl) })

    one : (e : DatagramValue) → datagram_at w.sent k ≡ Some e → d ≡ e
    one e x = let z : Some d ≡ Some e = sym at ∙ x in cc

    none_new : (e : DatagramValue) (text : List ℕ) (u : UpValue) → datagram_at w.sent k ≡ Some e → SaysUp (is_watching e.kind) text u
        → u.acts ≡ []
    none_new e text u x says = says.is.none (ap (λ (q : DatagramValue). is_watching q.kind) (sym (one e x)) ∙ watches)

    no_length : (e : DatagramValue) (u : UpValue) → u.acts ≡ [] → length (new_acts w.server e u) ≡ 0
    no_length e u none = ap length (fresh_none (w.server.records e.client).taken u.first u.acts none)

    acts_left : (e : DatagramValue) (g : Gathering) (u : UpValue) (n : ℕ) → datagram_at w.sent k ≡ Some e → u.acts ≡ [] → n ≡ 0
        → w' ≡ with_server w (after_acts w.server e from (moment w.server now) g u n) → IsSameBut d.client w.server w'.server
    acts_left e g u n x none nil is =
        subst (λ (q : World). IsSameBut d.client w.server q.server) (sym is)
        (subst (λ (id : ℕ). IsSameBut id w.server (after_acts w.server e from (moment w.server now) g u n))
        (ap (λ (q : DatagramValue). q.client) (sym (one e x)))
        (same_acts w.server e from (moment w.server now) g u n none nil))

    low : (e : DatagramValue) (u : UpValue) → u.acts ≡ [] → room_for w.server e u ≡ 0
    low e u none =
        let le = reach_low w.server.size w.server.log e.client (new_acts w.server e u) in
        let z = no_length e u none in
        omega (arith, le, z)

    go : ToServerStep w k from now r w' → IsSameBut d.client w.server w'.server
    go (not_sent x e is) = same_world is
    go (refused q f x y e is) = same_world is
    go (fragment q g x y e is) =
        subst (λ (v : World). IsSameBut d.client w.server v.server) (sym is)
        (record {
          size = refl;
          log = refl;
          cuts = refl;
          made_at = refl;
          input = refl;
          records = (λ j other. put_other w.server.records q.client _ j
              (λ z. other (z ∙ ap (λ (p : DatagramValue). p.client) (sym (one q x)))));
        })
    go (unread q g text why x y z e is) = same_world is
    go (all_taken q g text u x y z a e is) =
        let none = none_new q text u x z in
        acts_left q g u (length (new_acts w.server q u)) x none (no_length q u none) is
    go (no_room q g text u x y z a e is) =
        let none = none_new q text u x z in
        acts_left q (w.server.records q.client).gathering u (room_for w.server q u) x none (low q u none) is
    go (no_memory_at_act q g text u n x y z lt e is) =
        let none = low q u (none_new q text u x z) in
        absurd (omega (arith, lt, none))
    go (no_memory e is) = same_world is

pub limits : (w : World) → Holds w → Counts w → Limits w
limits w h k =
    record {
      numbers = h.numbers;
      typed = (λ id. (h.links id).acts.below);
      unacknowledged = (λ id. (h.links id).acts.few);
      downs = (λ id. (h.links id).downs);
      ups = (λ id. (h.links id).ups);
      known = k.few;
      datagrams = k.sent;
    }
