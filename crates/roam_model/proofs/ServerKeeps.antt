-- Each event at the server keeps the invariant.
use Rattle.std.proofs.Common.{◌≡◌, ℕ, ◌+◌, ◌<◌, ◌≤◌, ◌⊎◌, ◌^◌, max, List, [], ◌∷◌, ◌++◌, length, take, map, Some, Bool, true, false, refl, sym, ap, ◌∙◌, subst, inl, inr, arith, cond, append-nil}
use Rattle.std.specs.Prelude.{nat_eq, nat_lt, ◌&&◌, ◌||◌}
use Rattle.std.proofs.lemmas.Bool.Decides.{nat_tests}
use Rattle.std.proofs.lemmas.List.{length-take-le}
use Rattle.std.proofs.lemmas.List.Elements.{All-head, All-tail}
use Rattle.roam_screens.specs.Screenshot.{Screenshot}
use Rattle.roam_acts.specs.declared.acts.Act.{Act}
use Rattle.roam_sync.specs.declared.senders.Held.{Held}
use Rattle.roam_sync.specs.Senders.{Sending, newest, last_of, count, offered, is_due}
use Rattle.roam_sync.specs.Links.{Update, update_of, IsChange}
use Rattle.roam_sync.specs.TrueLinks.{HoldsTrueStates, TrueLink}
use Rattle.roam_sync.specs.InStep.{AreInStep}
use Rattle.roam_sync.proofs.Ends.{base_least, last_among}
use Rattle.roam_sync.proofs.TrueStates.{true_still, true_offered, true_acked, true_sent}
use Rattle.roam_sync.proofs.Steps.{in_step_offered, in_step_acked, in_step_sent}
use Rattle.roam_wire.specs.Gatherers.{Gathering, fragment_of}
use Rattle.roam_wire.specs.AnyOrder.{IsFragmentOf}
use Rattle.roam_wire.specs.Instructions.{DownValue, IsDown, down_text, UpValue, up_text}
use Rattle.roam_session.specs.Sessions.{SessionSize, Entry, Did}
use Rattle.roam_session.proofs.Screening.{face_is}
use Rattle.roam_model.specs.Versions.{IsSeenBy, difference_by, applied_by}
use Rattle.roam_model.specs.Lists.{IsIn}
use Rattle.roam_model.specs.Moments.{is_overdue}
use Rattle.roam_model.specs.Numbers.{screen, IsScreenOf, acts_of}
use Rattle.roam_model.specs.Texts.{Address, update_in, datagrams_of, is_to_server, is_watching}
use Rattle.roam_model.specs.Servers.{Note, Record, no_record, Server}
use Rattle.roam_model.specs.ServerArrivals.{heard_from, informed_from, after_note, new_acts, after_acts}
use Rattle.roam_model.specs.Ticks.{makes, cuts_after, number_after, screen_to, is_live, is_offered, holds_after, sends, down_to, fragments_to, after_sent, ticked_record, datagrams_to, Parcel, parcel, parcels_to, sent_by, is_tick_spent}
use Rattle.roam_model.specs.Clients.{Client}
use Rattle.roam_model.specs.Worlds.{World, with_server, after_server_tick}
use Rattle.roam_model.specs.Laws.{greatest_from, no_note}
use Rattle.roam_model.specs.Holds.{cuts_of, Gathers, Tells, Acks, ActsOf, LinkOf, IsFragment, Bears, Fits, AreCuts, AreScreens, Holds}
use Rattle.roam_model.proofs.Members.{IsIn-append_cases, IsIn-push_cases, IsIn-map, IsIn-flat_map, on_put}
use Rattle.roam_model.proofs.Screens.{is_more, is_cut, cuts_more, cuts_cut, screens_more, screens_cut, acts_of-append, acts_of-own, acts_of-other}
use Rattle.roam_model.proofs.Versions.{difference_leads}
use Rattle.roam_model.proofs.Acting.{front_more, front_low}
use Rattle.roam_model.proofs.Fragments.{fragment-more, gathers-more, IsPacked, packed_is}
use Rattle.roam_model.proofs.Keeps.{link-more, Link, not_past, or_left}
use Rattle.roam_wire.specs.declared.versions.Version.{Version}
use Rattle.roam_wire.specs.declared.datagrams.Kind.{Kind}
use Rattle.roam_wire.specs.declared.datagrams.Kind.TheVariants.{ToClient}
use Rattle.roam_wire.specs.Datagrams.{DatagramValue}

-- ---- a datagram comes

greatest-push : (best : Note) (notes : List Note) (note : Note)
    → greatest_from best (notes ++ note ∷ []) ≡ cond (nat_lt (greatest_from best notes).number note.number) note (greatest_from best notes)
greatest-push best [] note = refl
greatest-push best (n ∷ notes) note = greatest-push (cond (nat_lt best.number n.number) n best) notes note

abbrev noted_at : ℕ → Address → Note
noted_at number from = record { number = number; source = from }

-- the latest number and its address after one more note
latest_noted : (r : Record) (number : ℕ) (from : Address) → greatest_from no_note r.notes ≡ noted_at r.latest r.address
    → greatest_from no_note (r.notes ++ noted_at number from ∷ []) ≡ noted_at (max r.latest number)
    (cond (nat_lt r.latest number) from r.address)
latest_noted r number from e =
    greatest-push no_note r.notes (noted_at number from) ∙ ap (λ (b : Note). cond (nat_lt b.number number) (noted_at number from) b) e
    ∙ go (nat_lt r.latest number) refl
  where
    go : (b : Bool) → nat_lt r.latest number ≡ b → cond b (noted_at number from) (noted_at r.latest r.address) ≡ noted_at
        (max r.latest number) (cond b from r.address)
    go true f = let lt : r.latest < number = grind (arith, nat_tests) in let m : number ≡ max r.latest number =
        omega arith in ap (λ (k : ℕ). noted_at k from) m
    go false f = let le : number ≤ r.latest = grind (arith, nat_tests) in let m : r.latest ≡ max r.latest number =
        omega arith in ap (λ (k : ℕ). noted_at k r.address) m

-- the record of an instance changes, and nothing was sent to it
fragment-record : (to : Bool) (d : DatagramValue) (r r' : Record) (c : Client) → r'.instructions ≡ r.instructions → IsFragment to d r c
    → IsFragment to d r' c
fragment-record false d r r' c same p = subst (λ (vs : List DownValue). IsFragmentOf (cuts_of down_text vs) (fragment_of d)) (sym same) p
fragment-record true d r r' c same p = p

-- the record of a datagram that was sent is one of its client instance's version
fits-heard : (r r' : Record) (c : Client) (d : DatagramValue) → r'.known ≡ true → r'.version ≡ d.version → r'.watches ≡ is_watching d.kind
    → is_to_server d.kind ≡ true → Bears d c → Fits r' c
fits-heard r r' c d known version watches to b =
    record {
      made = (λ e. b.made);
      version = (λ e. version ∙ b.version);
      watches = (λ e. watches ∙ b.watches to);
      none = (λ e. absurd (let z : true ≡ false = sym known ∙ e in cc));
    }

pub keeps-note : (w : World) (d : DatagramValue) (from : Address) (now : ℕ) (g : Gathering) → is_to_server d.kind ≡ true → Bears d (w.clients d.client)
    → Gathers up_text (w.clients d.client).instructions g
    → Holds w → Holds (with_server w (after_note w.server d from now g))
keeps-note w d from now g to bears of h =
    let r = w.server.records d.client in
    let l = h.links d.client in
    let a = l.acts in
    record {
      size = h.size;
      numbers = h.numbers;
      cuts = h.cuts;
      screens = h.screens;
      links = on_put (λ j x. Link w j x (w.clients j)) w.server.records d.client (heard_from r d from now g) (record {
        truth = l.truth;
        in_step = l.in_step;
        acts = record {
          count = a.count;
          front = a.front;
          low = a.low;
          typed = a.typed;
          few = a.few;
          below = a.below;
          are = a.are;
          told =
              a.told;
        };
        downs = l.downs;
        ups = l.ups;
        gathers_down = l.gathers_down;
        gathers_up = of;
        count = l.count;
        notes = latest_noted r d.number from l.notes;
      }) (λ j e. h.links j);
      fragments = (λ x i. on_put (λ j y. IsFragment (is_to_server x.kind) x (w.server.records j) (w.clients x.client)
          → IsFragment (is_to_server x.kind) x y (w.clients x.client)) w.server.records d.client (heard_from r d from now g)
          (fragment-record (is_to_server x.kind) x r (heard_from r d from now g) (w.clients x.client) refl) (λ j e p. p) x.client (h.fragments x i));
      bears = h.bears;
      fits = on_put (λ j x. Fits x (w.clients j)) w.server.records d.client (heard_from r d from now g)
          (fits-heard r (heard_from r d from now g) (w.clients d.client) d refl refl refl to bears) (λ j e. h.fits j);
      watchers = h.watchers;
      unused = h.unused;
      slots = h.slots;
    }

pub keeps-acts : (w : World) (d : DatagramValue) (from : Address) (now : ℕ) (g : Gathering) (u : UpValue) (n : ℕ)
    → is_to_server d.kind ≡ true → Bears d (w.clients d.client) → Gathers up_text (w.clients d.client).instructions g
    → IsIn u (w.clients d.client).instructions → n ≤ length (new_acts w.server d u) → Holds w
    → Holds (with_server w (after_acts w.server d from now g u n))
keeps-acts w d from now g u n to bears of sent few h =
    record {
      size = h.size;
      numbers = h.numbers;
      cuts = cuts_more log more cuts h.cuts;
      screens = screens_more size log more cuts h.cuts h.screens;
      links = on_put (λ j x. LinkOf size (log ++ more) cuts (acts_of j (log ++ more)) x (w.clients j)) w.server.records d.client r'
          (record {
            truth = true_acked (applied_by c.kept.version) (IsScreenOf c.kept.version size (log ++ more) cuts) r.sender c.kept.receiver
                (Tells r.instructions) (true_still (applied_by c.kept.version) (IsScreenOf c.kept.version size log cuts) r.sender
                c.kept.receiver (Tells r.instructions) l.truth (IsScreenOf c.kept.version size (log ++ more) cuts) (Tells r.instructions)
                (is_more c.kept.version size log more cuts h.cuts) (λ u t. t)) u.acked;
            in_step = in_step_acked r.sender c.kept.receiver (Tells r.instructions) (Acks c.instructions) l.in_step u.acked (u, sent, refl);
            acts =
                (let count = a.count in
                let stretch = a.told u sent in
                let all : acts_of id (log ++ more) ≡ acts_of id log ++ take n new = acts_of-append id log more
                ∙ ap (λ (xs : List Act). acts_of id log ++ xs) (acts_of-own id (take n new)) in
                let front : acts_of id (log ++ more) ≡ take (r.taken + n) c.typed =
                all ∙ ap (λ (xs : List Act). xs ++ take n new) a.front ∙ front_more c.typed u.acts r.taken u.first n a.low stretch few in
                let low : r.taken + n ≤ length c.typed = front_low c.typed u.acts r.taken u.first n a.low stretch few in
                record {
                  count = sym (ap length front ∙ length-take-le (r.taken + n) c.typed low);
                  front = front;
                  low = low;
                  typed = a.typed;
                  few = a.few;
                  below = a.below;
                  are = a.are;
                  told = a.told;
                });
            downs = l.downs;
            ups = l.ups;
            gathers_down = l.gathers_down;
            gathers_up = of;
            count = l.count;
            notes = latest_noted r d.number from l.notes;
          })
          (λ j e. link-more size log more cuts (acts_of j log) (acts_of j (log ++ more)) (w.server.records j) (w.clients j) h.cuts
          (acts_of-append j log more ∙ ap (λ (xs : List Act). acts_of j log ++ xs) (acts_of-other j id (take n new) (flip j e))
          ∙ append-nil (acts_of j log)) (h.links j));
      fragments = (λ x i. on_put (λ j y. IsFragment (is_to_server x.kind) x (w.server.records j) (w.clients x.client)
          → IsFragment (is_to_server x.kind) x y (w.clients x.client)) w.server.records d.client r'
          (fragment-record (is_to_server x.kind) x r r' (w.clients x.client) refl) (λ j e p. p) x.client (h.fragments x i));
      bears = h.bears;
      fits = on_put (λ j x. Fits x (w.clients j)) w.server.records d.client r' (fits-heard r r' (w.clients d.client) d refl refl refl to bears)
          (λ j e. h.fits j);
      watchers = h.watchers;
      unused = h.unused;
      slots = h.slots;
    }
  where
    id : ℕ
    id = d.client

    size : SessionSize
    size = w.server.size

    log : List Entry
    log = w.server.log

    cuts : List ℕ
    cuts = w.server.cuts

    r : Record
    r = w.server.records d.client

    c : Client
    c = w.clients d.client

    new : List Act
    new = new_acts w.server d u

    more : List Entry
    more = map (Did d.client) (take n (new_acts w.server d u))

    r' : Record
    r' = informed_from (w.server.records d.client) d from now g u n

    l : Link w d.client (w.server.records d.client) (w.clients d.client)
    l = h.links d.client

    a : ActsOf (acts_of d.client w.server.log) (w.server.records d.client) (w.clients d.client)
    a = l.acts

    flip : (j : ℕ) → nat_eq j d.client ≡ false → nat_eq d.client j ≡ false
    flip j e = grind (arith, nat_tests)

-- ---- a tick

-- the newest pair of a sender
pub top_true : (Is : ℕ → Screenshot → Type 0) (s : Sending Screenshot) → HoldsTrueStates Is s → Is (newest s).number (newest s).state
top_true Is s are = go s.base s.later are
  where
    go : (base : Held Screenshot) (hs : List (Held Screenshot))
        → Rattle.std.proofs.Common.All (λ (h : Held Screenshot). Is h.number h.state) (base ∷ hs)
        → Is (last_of base hs).number (last_of base hs).state
    go base [] are = All-head (λ (h : Held Screenshot). Is h.number h.state) base [] are
    go base (h ∷ hs) are = go h hs (All-tail (λ (h : Held Screenshot). Is h.number h.state) base (h ∷ hs) are)

-- the invariant of a link, with the sender s
record HoldsLine (size : SessionSize) (log : List Entry) (cuts : List ℕ) (s : Sending Screenshot) (vs : List DownValue)
    (c : Client) : Type 0 where
  truth : TrueLink (applied_by c.kept.version) (IsScreenOf c.kept.version size log cuts) s c.kept.receiver (Tells vs)
  in_step : AreInStep s c.kept.receiver (Tells vs) (Acks c.instructions)

pub and_right : (a b : Bool) → (a && b) ≡ true → b ≡ true
and_right true b e = e
and_right false b e = absurd (cc)

pub and_left : (a b : Bool) → (a && b) ≡ true → a ≡ true
and_left true b e = refl
and_left false b e = absurd (cc)

live_known : (r : Record) (now : ℕ) → is_live r now ≡ true → r.known ≡ true
live_known r now e = and_left r.known (nat_lt now (r.heard_at + 60000)) e

-- only a record that is known is sent to
pub sends_known : (r : Record) (n : ℕ) (s : Screenshot) (now : ℕ) → sends r n s now ≡ true → r.known ≡ true
unfolding sends
sends_known r n s now e = live_known r now
    (and_left (is_live r now) (is_due (holds_after r n s now) now || is_overdue r.owed now) e)

-- nothing is offered to one that isn't
none_held : (n : ℕ) (s : Screenshot) (now : ℕ) → record no_record { sender = holds_after no_record n s now } ≡ no_record
unfolding holds_after no_record
none_held n s now = refl

module _ (size : SessionSize) (log : List Entry) (cuts : List ℕ) (taken : List Act) (r : Record) (c : Client) (n : ℕ) (s : Screenshot)
    (now : ℕ)
    (is : r.known ≡ true → IsScreenOf c.kept.version size log cuts n s) (fit : Fits r c) (screens : AreScreens size log cuts) (few : length cuts < 2 ^ 62)
    (l : LinkOf size log cuts taken r c) where
  -- after the offer
  offer_holds : HoldsLine size log cuts (holds_after r n s now) r.instructions c
  unfolding holds_after
  offer_holds = go (is_offered r n now) refl
    where
      go : (b : Bool) → is_offered r n now ≡ b → HoldsLine size log cuts (cond b (offered r.sender n s) r.sender) r.instructions c
      go true e =
          let live = and_left (is_live r now) (nat_lt (newest r.sender).number n)
          (and_left (is_live r now && nat_lt (newest r.sender).number n) (nat_lt (count r.sender) 8) e) in
          let above = and_right (is_live r now) (nat_lt (newest r.sender).number n)
          (and_left (is_live r now && nat_lt (newest r.sender).number n) (nat_lt (count r.sender) 8) e) in
          let room = and_right (is_live r now && nat_lt (newest r.sender).number n) (nat_lt (count r.sender) 8) e in
          record {
            truth = true_offered (applied_by c.kept.version) (IsScreenOf c.kept.version size log cuts) r.sender c.kept.receiver
                (Tells r.instructions) l.truth n s
                (is (live_known r now live));
            in_step = in_step_offered r.sender c.kept.receiver (Tells r.instructions) (Acks c.instructions) l.in_step n s (grind (arith, nat_tests))
                (grind (arith, nat_tests));
          }
      go false e = record { truth = l.truth; in_step = l.in_step }

  -- the screen that is sent is a screen
  pub newest_shown : IsSeenBy c.kept.version (newest (holds_after r n s now)).state
  newest_shown =
      let top = top_true (IsScreenOf c.kept.version size log cuts) (holds_after r n s now) offer_holds.truth.sender in
      subst (IsSeenBy c.kept.version) (sym top.same) (screens c.kept.version (newest (holds_after r n s now)).number top.made)

  -- the diff that is sent leads from the base to the newest
  change_leads : r.known ≡ true → IsChange (applied_by c.kept.version) (holds_after r n s now) (down_to r n s now).change
  change_leads known = subst (λ (v : Version). applied_by c.kept.version (holds_after r n s now).base.state
      (difference_by v (holds_after r n s now).base.state (newest (holds_after r n s now)).state) ≡ Some (newest (holds_after r n s now)).state)
      (sym (fit.version known))
      (difference_leads c.kept.version (holds_after r n s now).base.state (newest (holds_after r n s now)).state newest_shown)

  -- the instruction that is sent has a text
  pub down_is : IsDown (down_to r n s now)
  down_is =
      let held = holds_after r n s now in
      let top = (top_true (IsScreenOf c.kept.version size log cuts) (holds_after r n s now) offer_holds.truth.sender).made in
      let rises = base_least held.base held.later (newest held).number offer_holds.in_step.sender_rises (last_among held.base held.later) in
      let low = l.acts.low in
      let below = l.acts.below in
      record { floor = omega arith; old = rises; new = omega (arith, top, few); acked = omega (arith, low, below) }

  tells : (u : Update) → Tells (r.instructions ++ down_to r n s now ∷ []) u
      → Tells r.instructions u ⊎ (u ≡ update_of (holds_after r n s now) (down_to r n s now).change)
  tells u t = elim (IsIn-push_cases t.0 (down_to r n s now) r.instructions t.1)
      [ inl o ↦ inl (t.0, o, t.2) | inr e ↦ inr (sym t.2 ∙ ap update_in (sym e)) ]

  pub link_ticked : LinkOf size log cuts taken (ticked_record r n s now) c
  link_ticked = go (sends r n s now) refl
    where
      a : ActsOf taken r c
      a = l.acts

      go : (b : Bool) → sends r n s now ≡ b → LinkOf size log cuts taken (cond b (after_sent r n s now) (record r { sender = holds_after r n s now })) c
      go true e = record {
        truth = true_sent (applied_by c.kept.version) (IsScreenOf c.kept.version size log cuts) (holds_after r n s now)
            c.kept.receiver (Tells r.instructions) offer_holds.truth
            (Tells (r.instructions ++ down_to r n s now ∷ [])) now (down_to r n s now).change
            (change_leads (sends_known r n s now e)) tells;
        in_step = in_step_sent (holds_after r n s now) c.kept.receiver (Tells r.instructions) (Acks c.instructions) offer_holds.in_step
            (Tells (r.instructions ++ down_to r n s now ∷ [])) now (down_to r n s now).change tells;
        acts = record {
          count = a.count;
          front = a.front;
          low = a.low;
          typed = a.typed;
          few = a.few;
          below = a.below;
          are = a.are;
          told =
              a.told;
        };
        downs = (λ v i. elim (IsIn-push_cases v (down_to r n s now) r.instructions i)
            [ inl o ↦ l.downs v o | inr f ↦ subst IsDown f down_is ]);
        ups = l.ups;
        gathers_down = gathers-more down_text r.instructions (down_to r n s now ∷ []) c.kept.gathering l.gathers_down;
        gathers_up = l.gathers_up;
        count = l.count;
        notes = l.notes;
      }
      go false e = record {
        truth = offer_holds.truth;
        in_step = offer_holds.in_step;
        acts = record {
          count = a.count;
          front = a.front;
          low = a.low;
          typed = a.typed;
          few = a.few;
          below = a.below;
          are = a.are;
          told =
              a.told;
        };
        downs = l.downs;
        ups = l.ups;
        gathers_down = l.gathers_down;
        gathers_up = l.gathers_up;
        count = l.count;
        notes = l.notes;
      }

link-cut : (size : SessionSize) (log : List Entry) (cuts : List ℕ) (k : ℕ) (taken : List Act) (r : Record) (c : Client)
    → LinkOf size log cuts taken r c
    → LinkOf size log (cuts ++ k ∷ []) taken r c
link-cut size log cuts k taken r c l =
    record {
      truth = true_still (applied_by c.kept.version) (IsScreenOf c.kept.version size log cuts) r.sender c.kept.receiver
          (Tells r.instructions) l.truth (IsScreenOf c.kept.version size log (cuts ++ k ∷ [])) (Tells r.instructions)
          (λ n s i. is_cut c.kept.version size log cuts k n s i) (λ u t. t);
      in_step = l.in_step;
      acts = l.acts;
      downs = l.downs;
      ups = l.ups;
      gathers_down = l.gathers_down;
      gathers_up = l.gathers_up;
      count = l.count;
      notes = l.notes;
    }

fragment_ticked : (to : Bool) (d : DatagramValue) (r : Record) (c : Client) (n : ℕ) (s : Screenshot) (now : ℕ) → IsFragment to d r c
    → IsFragment to d (ticked_record r n s now) c
fragment_ticked true d r c n s now p = p
fragment_ticked false d r c n s now p = go (sends r n s now)
  where
    go : (b : Bool) → IsFragmentOf (cuts_of down_text
        (cond b (after_sent r n s now) (record r { sender = holds_after r n s now })).instructions) (fragment_of d)
    go true = fragment-more down_text r.instructions (down_to r n s now ∷ []) (fragment_of d) p
    go false = p

-- the datagrams of a tick to a record
pub to_record : (session id : ℕ) (r : Record) (n : ℕ) (s : Screenshot) (now : ℕ) (d : DatagramValue)
    → IsIn d (datagrams_to session id r n s now)
    → IsPacked down_text (ticked_record r n s now).instructions r.version ToClient session id d
to_record session id r n s now d i = go (sends r n s now) i
  where
    go : (b : Bool) → IsIn d (cond b (datagrams_of r.version ToClient session id r.datagrams (length r.instructions + 1) (fragments_to r n s now)) [])
        → IsPacked down_text (cond b (after_sent r n s now) (record r { sender = holds_after r n s now })).instructions r.version
        ToClient session id d
    go true i = packed_is down_text r.instructions (down_to r n s now) r.version ToClient session id r.datagrams d i
    go false i = absurd i

-- only a record that is known is sent to
pub to_known : (session id : ℕ) (r : Record) (n : ℕ) (s : Screenshot) (now : ℕ) (d : DatagramValue)
    → IsIn d (datagrams_to session id r n s now) → r.known ≡ true
to_known session id r n s now d i = go (sends r n s now) refl i
  where
    go : (b : Bool) → sends r n s now ≡ b
        → IsIn d (cond b (datagrams_of r.version ToClient session id r.datagrams (length r.instructions + 1) (fragments_to r n s now)) [])
        → r.known ≡ true
    go true e i = sends_known r n s now e
    go false e i = absurd i

-- the fit stays after a tick, which gives nothing to a record that isn't known
fits_ticked : (r : Record) (c : Client) (n : ℕ) (s : Screenshot) (now : ℕ) → Fits r c → Fits (ticked_record r n s now) c
fits_ticked r c n s now f = go (sends r n s now) refl
  where
    go : (b : Bool) → sends r n s now ≡ b → Fits (cond b (after_sent r n s now) (record r { sender = holds_after r n s now })) c
    go true e = record {
      made = f.made;
      version = f.version;
      watches = f.watches;
      none = (λ k. absurd (let z : true ≡ false = sym (sends_known r n s now e) ∙ k in cc));
    }
    go false e = record {
      made = f.made;
      version = f.version;
      watches = f.watches;
      none = (λ k. ap (λ (x : Record). record x { sender = holds_after x n s now }) (f.none k) ∙ none_held n s now);
    }

-- a datagram of a tick, and its address
pub record IsOfTick (s : Server) (now : ℕ) (p : Parcel) : Type 0 where
  pub known : (s.records p.datagram.client).known ≡ true
  pub packed : IsPacked down_text (ticked_record (s.records p.datagram.client) (number_after s now) (screen_to s now p.datagram.client)
      now).instructions (s.records p.datagram.client).version ToClient s.session p.datagram.client p.datagram
  pub to : p.to ≡ (s.records p.datagram.client).address

pub in_tick : (s : Server) (now : ℕ) (p : Parcel) → IsIn p (sent_by s now) → IsOfTick s now p
in_tick s now p i =
    let f = IsIn-flat_map (parcels_to s now) p s.arrival i in
    let m = IsIn-map (parcel (s.records f.0).address) p
    (datagrams_to s.session f.0 (s.records f.0) (number_after s now) (screen_to s now f.0) now) f.2 in
    let same : m.0 ≡ p.datagram = ap (λ (y : Parcel). y.datagram) m.2 in
    let q = to_record s.session f.0 (s.records f.0) (number_after s now) (screen_to s now f.0) now m.0 m.1 in
    let at : f.0 ≡ p.datagram.client = sym q.client_is ∙ ap (λ (y : DatagramValue). y.client) same in
    record {
      known = subst (λ (k : ℕ). (s.records k).known ≡ true) at
          (to_known s.session f.0 (s.records f.0) (number_after s now) (screen_to s now f.0) now m.0 m.1);
      packed = subst (λ (k : ℕ). IsPacked down_text (ticked_record (s.records k) (number_after s now) (screen_to s now k) now).instructions
          (s.records k).version ToClient s.session k p.datagram) at
          (subst (λ (y : DatagramValue). IsPacked down_text
          (ticked_record (s.records f.0) (number_after s now) (screen_to s now f.0) now).instructions (s.records f.0).version ToClient s.session f.0
          y) same q);
      to = ap (λ (y : Parcel). y.to) (sym m.2) ∙ ap (λ (k : ℕ). (s.records k).address) at;
    }

-- a number is made, or none
record CutsHold (w : World) (cuts : List ℕ) : Type 0 where
  numbers : length cuts < 2 ^ 62
  cuts_low : AreCuts w.server.log cuts
  screens : AreScreens w.server.size w.server.log cuts
  links : (id : ℕ) → LinkOf w.server.size w.server.log cuts (acts_of id w.server.log) (w.server.records id) (w.clients id)

cuts_hold : (w : World) (now : ℕ) → is_tick_spent w.server now ≡ false → Holds w
    → CutsHold w (cuts_after w.server now)
cuts_hold w now spent h = go (makes w.server now) refl (or_left _ _ spent)
  where
    s : Server
    s = w.server

    go : (b : Bool) → makes w.server now ≡ b
        → (b && Rattle.roam_model.specs.Moments.is_spent (length (cond b (w.server.cuts ++ length w.server.log ∷ []) w.server.cuts))) ≡
        false
        → CutsHold w (cond b (w.server.cuts ++ length w.server.log ∷ []) w.server.cuts)
    go true e f = record {
      numbers = not_past (length (s.cuts ++ length s.log ∷ [])) f;
      cuts_low = cuts_cut s.log s.cuts h.cuts;
      screens = screens_cut s.size s.log s.cuts h.screens (face_is s.size s.log h.size);
      links = λ id. link-cut s.size s.log s.cuts (length s.log) (acts_of id s.log) (s.records id) (w.clients id) (h.links id);
    }
    go false e f = record { numbers = h.numbers; cuts_low = h.cuts; screens = h.screens; links = h.links }

-- the screen of the newest number for a record is one of its instance's version
screen_for : (w : World) (now id : ℕ) → Fits (w.server.records id) (w.clients id) → (w.server.records id).known ≡ true
    → IsScreenOf (w.clients id).kept.version w.server.size w.server.log (cuts_after w.server now) (number_after w.server now)
    (screen_to w.server now id)
screen_for w now id f known = record {
  made = omega arith;
  same = ap (λ (v : Version). screen v w.server.size w.server.log (cuts_after w.server now) (number_after w.server now)) (f.version known);
}

-- the screen that a tick sends to a record is one that its instance may be shown
pub newest_screen : (w : World) (now : ℕ) → is_tick_spent w.server now ≡ false → Holds w → (id : ℕ)
    → IsSeenBy (w.clients id).kept.version
    (newest (holds_after (w.server.records id) (number_after w.server now) (screen_to w.server now id) now)).state
newest_screen w now spent h id =
    let c = cuts_hold w now spent h in
    newest_shown w.server.size w.server.log (cuts_after w.server now) (acts_of id w.server.log) (w.server.records id) (w.clients id)
    (number_after w.server now) (screen_to w.server now id) now
    (screen_for w now id (h.fits id)) (h.fits id) c.screens c.numbers (c.links id)

pub keeps-tick : (w : World) (now : ℕ) → is_tick_spent w.server now ≡ false → Holds w
    → Holds (after_server_tick w now)
keeps-tick w now spent h =
    record {
      size = h.size;
      numbers = c.numbers;
      cuts = c.cuts_low;
      screens = c.screens;
      links = (λ id. link_ticked w.server.size w.server.log (cuts_after w.server now) (acts_of id w.server.log) (w.server.records id)
          (w.clients id) (number_after w.server now) (screen_to w.server now id) now
          (screen_for w now id (h.fits id)) (h.fits id) c.screens c.numbers (c.links id));
      fragments = (λ d i. elim (IsIn-append_cases d w.sent (map (λ (p : Parcel). p.datagram) (sent_by w.server now)) i) [
        | inl o ↦ fragment_ticked (is_to_server d.kind) d (w.server.records d.client) (w.clients d.client) (number_after w.server now)
            (screen_to w.server now d.client) now (h.fragments d o)
        | inr n ↦ new d n
      ]);
      bears = (λ d i. elim (IsIn-append_cases d w.sent (map (λ (p : Parcel). p.datagram) (sent_by w.server now)) i) [
        | inl o ↦ h.bears d o
        | inr n ↦ born d n
      ]);
      fits = (λ id. fits_ticked (w.server.records id) (w.clients id) (number_after w.server now) (screen_to w.server now id) now (h.fits id));
      watchers = h.watchers;
      unused = h.unused;
      slots = h.slots;
    }
  where
    c : CutsHold w (cuts_after w.server now)
    c = cuts_hold w now spent h

    new : (d : DatagramValue) → IsIn d (map (λ (p : Parcel). p.datagram) (sent_by w.server now))
        → IsFragment (is_to_server d.kind) d (ticked_record (w.server.records d.client) (number_after w.server now) (screen_to w.server now d.client)
        now) (w.clients d.client)
    new d i =
        let m = IsIn-map (λ (p : Parcel). p.datagram) d (sent_by w.server now) i in
        let p = (in_tick w.server now m.0 m.1).packed in
        subst (λ (x : DatagramValue). IsFragment (is_to_server x.kind) x
        (ticked_record (w.server.records x.client) (number_after w.server now) (screen_to w.server now x.client) now) (w.clients x.client)) m.2
        (subst (λ (kind : Kind). IsFragment (is_to_server kind) m.0.datagram
        (ticked_record (w.server.records m.0.datagram.client) (number_after w.server now) (screen_to w.server now m.0.datagram.client) now)
        (w.clients m.0.datagram.client)) (sym p.kind_is) p.fragment)

    born : (d : DatagramValue) → IsIn d (map (λ (p : Parcel). p.datagram) (sent_by w.server now)) → Bears d (w.clients d.client)
    born d i =
        let m = IsIn-map (λ (p : Parcel). p.datagram) d (sent_by w.server now) i in
        let t = in_tick w.server now m.0 m.1 in
        let f = h.fits m.0.datagram.client in
        subst (λ (x : DatagramValue). Bears x (w.clients x.client)) m.2
        (record {
          made = f.made t.known;
          version = t.packed.version_is ∙ f.version t.known;
          watches = (λ e. absurd (let z : false ≡ true = ap is_to_server (sym t.packed.kind_is) ∙ e in cc));
        })
