-- Each event at a client instance, and each input, keeps the invariant.
use Rattle.std.proofs.Common.{◌≡◌, ℕ, ◌+◌, ◌<◌, ◌≤◌, ◌⊎◌, ◌^◌, List, [], ◌∷◌, ◌++◌, length, All, Option, Some, Bool, true, false, refl, sym, ap, ◌∙◌, subst, inl, inr, arith, append-nil, length-append, length-drop, length-take}
use Rattle.std.specs.Prelude.{◌||◌}
use Rattle.std.proofs.lemmas.Bool.Decides.{nat_tests}
use Rattle.std.proofs.lemmas.List.{take-append-le}
use Rattle.std.proofs.lemmas.List.Elements.{All-push, All-pop, All-take, All-drop}
use Rattle.roam_screens.specs.Screenshot.{Screenshot}
use Rattle.roam_acts.specs.declared.acts.Act.{Act}
use Rattle.roam_acts.specs.Acts.{IsAct}
use Rattle.roam_acts.specs.Senders.{IsFull, IsSpent, IsStretch}
use Rattle.roam_sync.specs.declared.receivers.Pair.{Pair}
use Rattle.roam_sync.specs.declared.receivers.Step.TheVariants as step
use Rattle.roam_sync.specs.Senders.{Sending}
use Rattle.roam_sync.specs.Receivers.{Receiving, pairs, step_for}
use Rattle.roam_sync.specs.Links.{Update, Hears, Delivers}
use Rattle.roam_sync.specs.TrueLinks.{HasTrueStates, TrueLink}
use Rattle.roam_sync.specs.InStep.{AreInStep}
use Rattle.roam_sync.proofs.TrueStates.{true_at_first, true_still, true_heard}
use Rattle.roam_sync.proofs.Steps.{in_step_answered, in_step_heard}
use Rattle.roam_sync.proofs.Rounds.{old_or_new}
use Rattle.roam_wire.specs.Gatherers.{Gathering, fragment_of}
use Rattle.roam_wire.specs.AnyOrder.{IsFragmentOf}
use Rattle.roam_wire.specs.Instructions.{DownValue, down_text, UpValue, IsUp, up_text}
use Rattle.roam_session.specs.Sessions.{SessionSize, Entry}
use Rattle.roam_model.specs.Steps.{is_unfit}
use Rattle.roam_model.specs.Versions.{applied_by}
use Rattle.roam_model.specs.Lists.{IsIn, with_value}
use Rattle.roam_model.specs.Moments.{is_spent}
use Rattle.roam_model.specs.Numbers.{first_screen, IsScreenOf, acts_of}
use Rattle.roam_model.specs.Texts.{update_in, is_to_server, is_watching, kind_from, datagrams_of}
use Rattle.roam_model.specs.Servers.{Record, no_record, after_input}
use Rattle.roam_model.specs.Clients.{Client, nobody, new_client, shown_number, after_act}
use Rattle.roam_model.specs.ClientArrivals.{after_fragment, after_whole}
use Rattle.roam_model.specs.Sendings.{up_from, fragments_from, datagrams_from, is_client_spent, after_instruction, after_quiet}
use Rattle.roam_model.specs.Worlds.{World, with_server, with_client, with_kept, after_client_sent, after_start}
use Rattle.roam_model.specs.Holds.{cuts_of, Gathers, Tells, Acks, ActsOf, LinkOf, IsFragment, Bears, Fits, AreCuts, Holds, OnlyWatches}
use Rattle.roam_model.proofs.Members.{IsIn-append_cases, IsIn-push_cases, on_put, put_same}
use Rattle.roam_model.proofs.Screens.{one_screen, first_is, is_more, cuts_more, screens_more, acts_of-append}
use Rattle.roam_model.proofs.Acting.{has_typed-more, has_typed-acked, acked_few, stretch-waiting, stretch-more}
use Rattle.roam_model.proofs.Fragments.{fragment-more, gathers-more, IsPacked, packed_is}
use Rattle.roam_wire.specs.declared.versions.Version.{Version}
use Rattle.roam_wire.specs.declared.datagrams.Kind.{Kind}
use Rattle.roam_wire.specs.Datagrams.{DatagramValue}
use Rattle.roam_wire.specs.declared.versions.Version.TheVariants.{One, Two}

-- ---- an input

-- the log grows, but by no act of this instance
pub link-more : (size : SessionSize) (log more : List Entry) (cuts : List ℕ) (taken taken' : List Act) (r : Record) (c : Client)
    → AreCuts log cuts
    → taken' ≡ taken → LinkOf size log cuts taken r c → LinkOf size (log ++ more) cuts taken' r c
link-more size log more cuts taken taken' r c low same l =
    record {
      truth = true_still (applied_by c.kept.version) (IsScreenOf c.kept.version size log cuts) r.sender c.kept.receiver
          (Tells r.instructions) l.truth (IsScreenOf c.kept.version size (log ++ more) cuts) (Tells r.instructions)
          (is_more c.kept.version size log more cuts low) (λ u t. t);
      in_step = l.in_step;
      acts = subst (λ (t : List Act). ActsOf t r c) (sym same) l.acts;
      downs = l.downs;
      ups = l.ups;
      gathers_down = l.gathers_down;
      gathers_up = l.gathers_up;
      count = l.count;
      notes = l.notes;
    }

pub keeps-input : (w : World) (entry : Entry) → ((id : ℕ) → acts_of id (entry ∷ []) ≡ []) → Holds w
    → Holds (with_server w (after_input w.server entry))
keeps-input w entry none h =
    record {
      size = h.size;
      numbers = h.numbers;
      cuts = cuts_more w.server.log (entry ∷ []) w.server.cuts h.cuts;
      screens = screens_more w.server.size w.server.log (entry ∷ []) w.server.cuts h.cuts h.screens;
      links = (λ id.
          let same : acts_of id (w.server.log ++ entry ∷ []) ≡ acts_of id w.server.log =
          acts_of-append id w.server.log (entry ∷ []) ∙ ap (λ (xs : List Act). acts_of id w.server.log ++ xs) (none id)
          ∙ append-nil (acts_of id w.server.log) in
          link-more w.server.size w.server.log (entry ∷ []) w.server.cuts (acts_of id w.server.log)
          (acts_of id (w.server.log ++ entry ∷ [])) (w.server.records id) (w.clients id) h.cuts same (h.links id));
      fragments = h.fragments;
      bears = h.bears;
      fits = h.fits;
      watchers = h.watchers;
      unused = h.unused;
      slots = h.slots;
    }

-- ---- a client instance

-- the link of an instance and its record
abbrev pub Link : World → ℕ → Record → Client → Type 0
Link w id r c = LinkOf w.server.size w.server.log w.server.cuts (acts_of id w.server.log) r c

-- a client instance that was made changes, and sent nothing
pub keeps-client : (w : World) (id : ℕ) (c : Client) → c.made ≡ true → c.kept.version ≡ (w.clients id).kept.version
    → c.kept.watches ≡ (w.clients id).kept.watches → OnlyWatches c → c.instructions ≡ (w.clients id).instructions
    → Link w id (w.server.records id) c
    → Holds w → Holds (with_client w id c)
keeps-client w id c made version watches alone same link h =
    record {
      size = h.size;
      numbers = h.numbers;
      cuts = h.cuts;
      screens = h.screens;
      links = on_put (λ j x. Link w j (w.server.records j) x) w.clients id c link (λ j e. h.links j);
      fragments = (λ d i. on_put (λ j x. IsFragment (is_to_server d.kind) d (w.server.records d.client) (w.clients j)
          → IsFragment (is_to_server d.kind) d (w.server.records d.client) x) w.clients id c (like (is_to_server d.kind) d) (λ j e p. p)
          d.client (h.fragments d i));
      bears = (λ d i. on_put (λ j x. Bears d (w.clients j) → Bears d x) w.clients id c
          (λ b. record { made = made; version = b.version ∙ sym version; watches = (λ t. b.watches t ∙ sym watches) }) (λ j e b. b) d.client (h.bears d i));
      fits = on_put (λ j x. Fits (w.server.records j) x) w.clients id c (let f = h.fits id in record {
        made = (λ e. made);
        version = (λ e. f.version e ∙ sym version);
        watches = (λ e. f.watches e ∙ sym watches);
        none = f.none;
      }) (λ j e. h.fits j);
      watchers = on_put (λ j x. OnlyWatches x) w.clients id c alone (λ j e. h.watchers j);
      unused = on_put (λ j x. x.made ≡ false → x ≡ nobody) w.clients id c (λ f. let z : true ≡ false = sym made ∙ f in cc)
          (λ j e. h.unused j);
      slots = (λ slot j. on_put (λ k x. w.slots slot ≡ Some k → x.made ≡ true) w.clients id c (λ s. made) (λ k e. h.slots slot k) j);
    }
  where
    like : (to : Bool) (d : DatagramValue) → IsFragment to d (w.server.records d.client) (w.clients id)
        → IsFragment to d (w.server.records d.client) c
    like false d p = p
    like true d p = subst (λ (us : List UpValue). IsFragmentOf (cuts_of up_text us) (fragment_of d)) (sym same) p

-- the datagrams of an instance go to the server, and their kind names a read-only instance
pub kind_goes : (watches : Bool) → is_to_server (kind_from watches) ≡ true
kind_goes true = refl
kind_goes false = refl

pub kind_watches : (watches : Bool) → is_watching (kind_from watches) ≡ watches
kind_watches true = refl
kind_watches false = refl

-- all acts that were typed: the acknowledged ones, and the others
typed_length : (taken : List Act) (r : Record) (c : Client) → ActsOf taken r c
    → length c.typed ≡ c.kept.acts.acked + length c.kept.acts.acts
typed_length taken r c a =
    let known = a.typed.known in
    let held = ap length a.typed.held in
    omega (arith, known, held, length-drop c.kept.acts.acked c.typed)

pub keeps-typed : (w : World) (id : ℕ) (act : Act) → (w.clients id).made ≡ true → (w.clients id).kept.watches ≡ false → IsAct act
    → (IsFull (w.clients id).kept.acts → ⊥) → (IsSpent (w.clients id).kept.acts → ⊥)
    → Holds w → Holds (with_client w id (after_act (w.clients id) act))
keeps-typed w id act made edits is full spent h =
    let c = w.clients id in
    let l = h.links id in
    let a = l.acts in
    let r = w.server.records id in
    let few = a.few in
    let room : length (w.clients id).kept.acts.acts < 1024 = not_full full few in
    let many = typed_length (acts_of id w.server.log) r c a in
    let below = a.below in
    let fits : length (w.clients id).typed + 1 < 2 ^ 62 = not_spent room spent many below in
    let low = a.low in
    keeps-client w id (after_act (w.clients id) act) made refl refl (λ z. absurd (let no : true ≡ false = sym z ∙ edits in cc)) refl
    (record {
      truth = l.truth;
      in_step = l.in_step;
      acts = record {
        count = a.count;
        front = a.front ∙ sym (take-append-le r.taken c.typed (act ∷ []) low);
        low = omega (arith, low, length-append (w.clients id).typed (act ∷ []));
        typed = has_typed-more c.kept.acts c.typed act a.typed;
        few = omega (arith, room, length-append (w.clients id).kept.acts.acts (act ∷ []));
        below = omega (arith, fits, length-append (w.clients id).typed (act ∷ []));
        are = All-push IsAct c.typed act a.are is;
        told = (λ u i. stretch-more c.typed u.acts u.first act (a.told u i));
      };
      downs = l.downs;
      ups = l.ups;
      gathers_down = l.gathers_down;
      gathers_up = l.gathers_up;
      count = l.count;
      notes = l.notes;
    }) h
  where
    not_full : (IsFull (w.clients id).kept.acts → ⊥) → length (w.clients id).kept.acts.acts ≤ 1024
        → length (w.clients id).kept.acts.acts < 1024
    not_full full le = elim (cases (length (w.clients id).kept.acts.acts) le) [ inl e ↦ absurd (full e) | inr lt ↦ lt ]
      where
        cases : (n : ℕ) → n ≤ 1024 → (n ≡ 1024) ⊎ (n < 1024)
        cases n le = grind arith

    not_spent : length (w.clients id).kept.acts.acts < 1024 → (IsSpent (w.clients id).kept.acts → ⊥)
        → length (w.clients id).typed ≡ (w.clients id).kept.acts.acked + length (w.clients id).kept.acts.acts
        → length (w.clients id).typed < 2 ^ 62 → length (w.clients id).typed + 1 < 2 ^ 62
    not_spent room spent many below = elim (cases (length (w.clients id).typed) below)
        [ inl e ↦ absurd (spent (room, omega (arith, e, many))) | inr lt ↦ lt ]
      where
        cases : (n : ℕ) → n < 2 ^ 62 → (n + 1 ≡ 2 ^ 62) ⊎ (n + 1 < 2 ^ 62)
        cases n lt = grind arith

pub keeps-quiet : (w : World) (id now : ℕ) → (w.clients id).made ≡ true → Holds w
    → Holds (with_kept w id (after_quiet (w.clients id).kept now))
keeps-quiet w id now made h =
    let l = h.links id in
    let a = l.acts in
    keeps-client w id (record (w.clients id) { kept = after_quiet (w.clients id).kept now }) made refl refl (h.watchers id) refl
    (record {
      truth = l.truth;
      in_step = l.in_step;
      acts = record {
        count = a.count;
        front = a.front;
        low = a.low;
        typed = a.typed;
        few = a.few;
        below = a.below;
        are = a.are;
        told =
            a.told;
      };
      downs = l.downs;
      ups = l.ups;
      gathers_down = l.gathers_down;
      gathers_up = l.gathers_up;
      count = l.count;
      notes = l.notes;
    }) h

pub keeps-fragment : (w : World) (id now : ℕ) (g : Gathering) → (w.clients id).made ≡ true
    → Gathers down_text (w.server.records id).instructions g
    → Holds w → Holds (with_kept w id (after_fragment (w.clients id).kept now g))
keeps-fragment w id now g made of h =
    let l = h.links id in
    let a = l.acts in
    keeps-client w id (record (w.clients id) { kept = after_fragment (w.clients id).kept now g }) made refl refl (h.watchers id) refl
    (record {
      truth = l.truth;
      in_step = l.in_step;
      acts = record {
        count = a.count;
        front = a.front;
        low = a.low;
        typed = a.typed;
        few = a.few;
        below = a.below;
        are = a.are;
        told =
            a.told;
      };
      downs = l.downs;
      ups = l.ups;
      gathers_down = of;
      gathers_up = l.gathers_up;
      count = l.count;
      notes = l.notes;
    }) h

-- an update that was sent comes: it is old or new, and the link stays true and in step
pub record Hearken {S : Type 0} (applied : S → List ℕ → Option S) (Is : ℕ → S → Type 0) (s : Sending S) (r r' : Receiving S) (u : Update)
    (WasSent : Update → Type 0) (WasAnswered : ℕ → Type 0) : Type 0 where
  pub how : (r' ≡ r) ⊎ Hears applied r u r'
  pub truth : TrueLink applied Is s r' WasSent
  pub in_step : AreInStep s r' WasSent WasAnswered

pub hearken : {S : Type 0} (applied : S → List ℕ → Option S) (Is : ℕ → S → Type 0) (s : Sending S) (r r' : Receiving S) (u : Update)
    (WasSent : Update → Type 0) (WasAnswered : ℕ → Type 0) → ((n : ℕ) (a b : S) → Is n a → Is n b → a ≡ b)
    → TrueLink applied Is s r WasSent → AreInStep s r WasSent WasAnswered → WasSent u → Delivers applied r u r'
    → Hearken applied Is s r r' u WasSent WasAnswered
hearken {S} applied Is s r r' u WasSent WasAnswered one truth in_step sent delivers =
    elim (old_or_new s r WasSent WasAnswered in_step u sent) [
      | inl old ↦ (
          let other : step_for r u.old u.new u.floor ≡ step.New → ⊥ = λ new. (let no : step.Old ≡ step.New = sym old.0 ∙ new in cc) in
          let same : r' ≡ r = delivers.other other in
          record {
            how = inl same;
            truth = subst (λ (q : Receiving S). TrueLink applied Is s q WasSent) (sym same) truth;
            in_step = subst (λ (q : Receiving S). AreInStep s q WasSent WasAnswered) (sym same) in_step;
          }
          )
      | inr new ↦ (
          let hears : Hears applied r u r' = record { fresh = new; takes = delivers.fresh new } in
          record {
            how = inr hears;
            truth = true_heard applied Is s r WasSent truth r' u one sent hears;
            in_step = in_step_heard s r WasSent WasAnswered in_step applied r' u sent hears;
          }
          )
    ]

pub keeps-whole : (w : World) (id now : ℕ) (g : Gathering) (r' : Receiving Screenshot) (v : DownValue) → (w.clients id).made ≡ true
    → Gathers down_text (w.server.records id).instructions g → IsIn v (w.server.records id).instructions
    → Delivers (applied_by (w.clients id).kept.version) (w.clients id).kept.receiver (update_in v) r'
    → Holds w → Holds (with_kept w id (after_whole (w.clients id).kept now g r' v))
keeps-whole w id now g r' v made of sent delivers h =
    let c = w.clients id in
    let r = w.server.records id in
    let l = h.links id in
    let a = l.acts in
    let few = a.few in
    let t = hearken (applied_by c.kept.version) (IsScreenOf c.kept.version w.server.size w.server.log w.server.cuts) r.sender
    c.kept.receiver r' (update_in v) (Tells r.instructions) (Acks c.instructions)
    (one_screen c.kept.version w.server.size w.server.log w.server.cuts) l.truth l.in_step (v, sent, refl) delivers in
    keeps-client w id (record (w.clients id) { kept = after_whole (w.clients id).kept now g r' v }) made refl refl (h.watchers id) refl
    (record {
      truth = t.truth;
      in_step = t.in_step;
      acts = record {
        count = a.count;
        front = a.front;
        low = a.low;
        typed = has_typed-acked c.kept.acts c.typed v.acked a.typed;
        few = omega (arith, few, acked_few (w.clients id).kept.acts v.acked);
        below = a.below;
        are = a.are;
        told = a.told;
      };
      downs = l.downs;
      ups = l.ups;
      gathers_down = of;
      gathers_up = l.gathers_up;
      count = l.count;
      notes = l.notes;
    }) h

-- the newest pair of a receiver
pub newest_true : (Is : ℕ → Screenshot → Type 0) (r : Receiving Screenshot) → HasTrueStates Is r → Is r.newest.number r.newest.state
newest_true Is r are = (All-pop (λ (p : Pair Screenshot). Is p.number p.state) (pairs r) r.earlier (Some r.newest) refl are).1

pub not_past : (n : ℕ) → is_spent n ≡ false → n < 2 ^ 62
not_past n e = grind (arith, nat_tests)

pub or_left : (a b : Bool) → (a || b) ≡ false → a ≡ false
or_left true b e = cc
or_left false b e = refl

pub or_right : (a b : Bool) → (a || b) ≡ false → b ≡ false
or_right true b e = absurd (cc)
or_right false b e = e

up_is : (w : World) (id : ℕ) → is_client_spent (w.clients id).kept ≡ false → Holds w → IsUp (up_from (w.clients id).kept)
up_is w id e h =
    let c = w.clients id in
    let l = h.links id in
    let a = l.acts in
    let made = (newest_true (IsScreenOf c.kept.version w.server.size w.server.log w.server.cuts) c.kept.receiver l.truth.receiver).made in
    let numbers = h.numbers in
    let left = or_left (is_spent (c.kept.acts.acked + 1) || is_spent (c.kept.instructions + 1))
    (is_spent (c.kept.datagrams + length (fragments_from c.kept))) e in
    let first = not_past (c.kept.acts.acked + 1) (or_left (is_spent (c.kept.acts.acked + 1)) (is_spent (c.kept.instructions + 1)) left) in
    record {
      acked = omega (arith, made, numbers);
      first = (omega arith, first);
      count = omega (arith, length-take 64 (w.clients id).kept.acts.acts);
      acts = All-take IsAct 64 c.kept.acts.acts (subst (All IsAct) (sym a.typed.held) (All-drop IsAct c.kept.acts.acked c.typed a.are));
    }

pub keeps-sending : (w : World) (id now : ℕ) → (w.clients id).made ≡ true → is_client_spent (w.clients id).kept ≡ false → Holds w
    → Holds (after_client_sent w id now)
keeps-sending w id now made e h =
    record {
      size = h.size;
      numbers = h.numbers;
      cuts = h.cuts;
      screens = h.screens;
      links = on_put (λ j x. Link w j (w.server.records j) x) w.clients id c' (record {
        truth = l.truth;
        in_step = in_step_answered r.sender c.kept.receiver (Tells r.instructions) (Acks c.instructions) l.in_step
            (Acks (c.instructions ++ up_from c.kept ∷ [])) acks;
        acts = record {
          count = a.count;
          front = a.front;
          low = a.low;
          typed = a.typed;
          few = a.few;
          below = a.below;
          are = a.are;
          told = (λ u i. elim (IsIn-push_cases u (up_from c.kept) c.instructions i) [
            | inl o ↦ a.told u o
            | inr f ↦ subst (λ (x : UpValue). IsStretch c.typed x.first x.acts) f (stretch-waiting c.kept.acts c.typed a.typed)
          ]);
        };
        downs = l.downs;
        ups = (λ u i. elim (IsIn-push_cases u (up_from c.kept) c.instructions i) [
          | inl o ↦ l.ups u o
          | inr f ↦ subst IsUp f (up_is w id e h)
        ]);
        gathers_down = l.gathers_down;
        gathers_up = gathers-more up_text c.instructions (up_from c.kept ∷ []) r.gathering l.gathers_up;
        count = ap (λ (n : ℕ). n + 1) l.count ∙ sym (length-append c.instructions (up_from c.kept ∷ []));
        notes = l.notes;
      }) (λ j f. h.links j);
      fragments = (λ d i. elim (IsIn-append_cases d w.sent (datagrams_from w.server.session id c.kept) i) [
        | inl o ↦ on_put (λ j x. IsFragment (is_to_server d.kind) d (w.server.records d.client) (w.clients j)
            → IsFragment (is_to_server d.kind) d (w.server.records d.client) x) w.clients id c' (like (is_to_server d.kind) d)
            (λ j f p. p) d.client (h.fragments d o)
        | inr n ↦ new d n
      ]);
      bears = (λ d i. elim (IsIn-append_cases d w.sent (datagrams_from w.server.session id c.kept) i) [
        | inl o ↦ on_put (λ j x. Bears d (w.clients j) → Bears d x) w.clients id c'
            (λ b. record { made = made; version = b.version; watches = b.watches }) (λ j f b. b) d.client (h.bears d o)
        | inr n ↦ subst (λ (k : ℕ). Bears d (with_value w.clients id c' k)) (sym (packed d n).client_is)
            (subst (λ (x : Client). Bears d x) (sym (put_same w.clients id c')) (record {
              made = made;
              version = (packed d n).version_is;
              watches = (λ t. ap is_watching (packed d n).kind_is ∙ kind_watches (w.clients id).kept.watches);
            }))
      ]);
      fits = on_put (λ j x. Fits (w.server.records j) x) w.clients id c' (let f = h.fits id in
          record { made = (λ g. made); version = f.version; watches = f.watches; none = f.none }) (λ j g. h.fits j);
      watchers = on_put (λ j x. OnlyWatches x) w.clients id c' (h.watchers id) (λ j g. h.watchers j);
      unused = on_put (λ j x. x.made ≡ false → x ≡ nobody) w.clients id c' (λ f. let z : true ≡ false = sym made ∙ f in cc)
          (λ j f. h.unused j);
      slots = (λ slot j. on_put (λ k x. w.slots slot ≡ Some k → x.made ≡ true) w.clients id c' (λ s. made) (λ k f. h.slots slot k) j);
    }
  where
    c : Client
    c = w.clients id

    r : Record
    r = w.server.records id

    c' : Client
    c' = after_instruction (w.clients id) now

    l : Link w id (w.server.records id) (w.clients id)
    l = h.links id

    a : ActsOf (acts_of id w.server.log) (w.server.records id) (w.clients id)
    a = l.acts

    acks : (n : ℕ) → Acks ((w.clients id).instructions ++ up_from (w.clients id).kept ∷ []) n
        → Acks (w.clients id).instructions n ⊎ (n ≡ shown_number (w.clients id))
    acks n b = elim (IsIn-push_cases b.0 (up_from (w.clients id).kept) (w.clients id).instructions b.1)
        [ inl o ↦ inl (b.0, o, b.2) | inr f ↦ inr (sym b.2 ∙ ap (λ (u : UpValue). u.acked) (sym f)) ]

    packed : (d : DatagramValue) → IsIn d (datagrams_from w.server.session id (w.clients id).kept)
        → IsPacked up_text ((w.clients id).instructions ++ up_from (w.clients id).kept ∷ []) (w.clients id).kept.version
        (kind_from (w.clients id).kept.watches) w.server.session id d
    packed d i =
        packed_is up_text (w.clients id).instructions (up_from (w.clients id).kept) (w.clients id).kept.version
        (kind_from (w.clients id).kept.watches) w.server.session id (w.clients id).kept.datagrams d
        (subst (λ (n : ℕ). IsIn d (datagrams_of (w.clients id).kept.version (kind_from (w.clients id).kept.watches) w.server.session id
        (w.clients id).kept.datagrams (n + 1) (fragments_from (w.clients id).kept))) l.count i)

    like : (to : Bool) (d : DatagramValue) → IsFragment to d (w.server.records d.client) (w.clients id)
        → IsFragment to d (w.server.records d.client) (after_instruction (w.clients id) now)
    like false d p = p
    like true d p = fragment-more up_text (w.clients id).instructions (up_from (w.clients id).kept ∷ []) (fragment_of d) p

    new : (d : DatagramValue) → IsIn d (datagrams_from w.server.session id (w.clients id).kept)
        → IsFragment (is_to_server d.kind) d (w.server.records d.client) (with_value w.clients id (after_instruction (w.clients id) now) d.client)
    new d i =
        let p = packed d i in
        subst (λ (kind : Kind). IsFragment (is_to_server kind) d (w.server.records d.client)
        (with_value w.clients id (after_instruction (w.clients id) now) d.client))
        (sym p.kind_is)
        (subst (λ (to : Bool). IsFragment to d (w.server.records d.client) (with_value w.clients id (after_instruction (w.clients id) now) d.client))
        (sym (kind_goes (w.clients id).kept.watches))
        (subst (λ (k : ℕ). IsFragment true d (w.server.records d.client) (with_value w.clients id (after_instruction (w.clients id) now) k))
        (sym p.client_is)
        (subst (λ (x : Client). IsFragment true d (w.server.records d.client) x)
        (sym (put_same w.clients id (after_instruction (w.clients id) now))) p.fragment)))

-- no record is known of an instance that isn't made
unknown : (r : Record) (c : Client) → c.made ≡ false → Fits r c → r ≡ no_record
unknown r c made f = go r.known refl
  where
    go : (b : Bool) → r.known ≡ b → r ≡ no_record
    go true e = absurd (let z : true ≡ false = sym (f.made e) ∙ made in cc)
    go false e = f.none e

-- both ends have the first screen alone, which is one screen in each version
first_true : (v : Version) (watches : Bool) (size : SessionSize) (log : List Entry) (cuts : List ℕ) (r : Record) → r ≡ no_record
    → TrueLink (applied_by v) (IsScreenOf v size log cuts) r.sender (new_client v watches).kept.receiver (Tells r.instructions)
unfolding no_record nobody
first_true v watches size log cuts r is =
    subst (λ (x : Record). TrueLink (applied_by v) (IsScreenOf v size log cuts) x.sender (new_client v watches).kept.receiver (Tells x.instructions))
    (sym is) (true_at_first (applied_by v) (IsScreenOf v size log cuts) first_screen (Tells []) (first_is v size log cuts) (λ u t. t.1))

none_typed : (v : Version) (watches : Bool) → (new_client v watches).typed ≡ []
unfolding nobody
none_typed v watches = refl

is_new : (v : Version) (watches : Bool) → is_unfit v watches ≡ false → watches ≡ true → v ≡ Two
is_new One watches fit z = absurd (let no : true ≡ false = sym z ∙ fit in cc)
is_new Two watches fit z = refl

pub keeps-start : (w : World) (slot id : ℕ) (v : Version) (watches : Bool) → (w.clients id).made ≡ false
    → is_unfit v watches ≡ false → Holds w → Holds (after_start w slot id v watches)
keeps-start w slot id v watches made fit h =
    let is = h.unused id made in
    let l = subst (λ (x : Client). Link w id (w.server.records id) x) is (h.links id) in
    let a = l.acts in
    let none = unknown (w.server.records id) (w.clients id) made (h.fits id) in
    record {
      size = h.size;
      numbers = h.numbers;
      cuts = h.cuts;
      screens = h.screens;
      links = on_put (λ j x. Link w j (w.server.records j) x) w.clients id (new_client v watches) (record {
        truth = first_true v watches w.server.size w.server.log w.server.cuts (w.server.records id) none;
        in_step = l.in_step;
        acts = record {
          count = a.count;
          front = a.front;
          low = a.low;
          typed = a.typed;
          few = a.few;
          below = a.below;
          are = a.are;
          told =
              a.told;
        };
        downs = l.downs;
        ups = l.ups;
        gathers_down = l.gathers_down;
        gathers_up = l.gathers_up;
        count = l.count;
        notes = l.notes;
      }) (λ j e. h.links j);
      fragments = (λ d i. on_put (λ j x. IsFragment (is_to_server d.kind) d (w.server.records d.client) (w.clients j)
          → IsFragment (is_to_server d.kind) d (w.server.records d.client) x) w.clients id (new_client v watches)
          (λ p. like (is_to_server d.kind) d (subst (λ (x : Client). IsFragment (is_to_server d.kind) d (w.server.records d.client) x) is p))
          (λ j e p. p) d.client (h.fragments d i));
      bears = (λ d i. on_put (λ j x. Bears d (w.clients j) → Bears d x) w.clients id (new_client v watches)
          (λ b. absurd (let z : true ≡ false = sym b.made ∙ made in cc)) (λ j e b. b) d.client (h.bears d i));
      fits = on_put (λ j x. Fits (w.server.records j) x) w.clients id (new_client v watches) (let f = h.fits id in record {
        made = (λ e. refl);
        version = (λ e. absurd (let z : true ≡ false = sym (f.made e) ∙ made in cc));
        watches = (λ e. absurd (let z : true ≡ false = sym (f.made e) ∙ made in cc));
        none = f.none;
      }) (λ j e. h.fits j);
      watchers = on_put (λ j x. OnlyWatches x) w.clients id (new_client v watches) (λ z. (none_typed v watches, is_new v watches fit z))
          (λ j e. h.watchers j);
      unused = on_put (λ j x. x.made ≡ false → x ≡ nobody) w.clients id (new_client v watches) (λ f. let z : true ≡ false = f in cc)
          (λ j e. h.unused j);
      slots = (λ place j. on_put (λ k x. x ≡ Some j → (with_value w.clients id (new_client v watches) j).made ≡ true) w.slots slot (Some id)
          (λ e. let same : id ≡ j = cc in subst (λ (k : ℕ). (with_value w.clients id (new_client v watches) k).made ≡ true) same
          (ap (λ (x : Client). x.made) (put_same w.clients id (new_client v watches))))
          (λ k f s. on_put (λ i x. w.slots k ≡ Some i → x.made ≡ true) w.clients id (new_client v watches) (λ t. refl) (λ i e. h.slots k i) j s)
          place);
    }
  where
    like : (to : Bool) (d : DatagramValue) → IsFragment to d (w.server.records d.client) nobody
        → IsFragment to d (w.server.records d.client) (new_client v watches)
    like false d p = p
    like true d p = p
