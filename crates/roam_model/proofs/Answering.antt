-- Each event is answered, and memory aside in one way.
use Rattle.std.proofs.Common.{◌≡◌, ◌⊎◌, ℕ, ◌+◌, ◌<◌, ◌≤◌, List, length, Option, Some, None, Bool, true, false, refl, sym, ap, ◌∙◌, subst, inl, inr, arith}
use Rattle.std.specs.Prelude.{nat_lt}
use Rattle.std.proofs.lemmas.Bool.Decides.{nat_tests}
use Rattle.roam_cells.specs.declared.faults.Fault.{Fault}
use Rattle.roam_cells.specs.declared.faults.Fault.TheVariants.{NoPane, Busy, BadDatagram, BadChange, Spent, Watching}
use Rattle.roam_cells.specs.declared.faults.Reason.{Reason}
use Rattle.roam_screens.specs.Screenshot.{Screenshot}
use Rattle.roam_acts.specs.declared.acts.Act.{Act}
use Rattle.roam_acts.specs.Senders.{IsFull, IsSpent}
use Rattle.roam_sync.specs.declared.receivers.Step.{Step}
use Rattle.roam_sync.specs.declared.receivers.Step.TheVariants as step
use Rattle.roam_sync.specs.Receivers.{Receiving, pairs, state_at, step_for}
use Rattle.roam_sync.specs.Links.{Update, Delivers}
use Rattle.roam_wire.specs.Gatherers.{Gathering}
use Rattle.roam_wire.specs.Instructions.{DownValue, UpValue}
use Rattle.roam_wire.proofs.Texts.{one_down, one_up}
use Rattle.roam_session.specs.Sessions.{Given, Drained}
use Rattle.roam_session.specs.Refusals.{refuses_bytes, output_at}
use Rattle.roam_model.specs.Versions.{applied_by}
use Rattle.roam_model.specs.Texts.{Address, SaysDown, SaysNoDown, SaysUp, SaysNoUp, update_in, is_watching}
use Rattle.roam_model.specs.Servers.{moment, after_input}
use Rattle.roam_model.specs.ServerArrivals.{coming, after_note, new_acts, after_acts, room_for}
use Rattle.roam_model.specs.Arrival.{Arrival, turned_away, noted, completed}
use Rattle.roam_model.specs.Ticks.{sent_by, is_tick_spent}
use Rattle.roam_model.specs.Clients.{moment_of, after_act}
use Rattle.roam_model.specs.ClientArrivals.{Hearing, arriving, after_fragment, step_of, hearing_of, after_whole}
use Rattle.roam_model.specs.Sendings.{is_client_due, is_client_spent, datagrams_from, after_quiet}
use Rattle.roam_model.specs.Worlds.{World, PaneBytes, Typed, ServerTick, ClientTick, ToServer, ToClient, Start, Drain, Reply, Done, Sent, Taken, Heard, Refused, Failed, Stopped, datagram_at, with_server, with_client, with_kept, after_server_tick, after_client_sent, after_start}
use Rattle.roam_model.specs.Steps.{PaneBytesStep, DrainStep, TypedStep, ServerTickStep, ClientTickStep, ToServerStep, ToClientStep, StartStep, refused, taken, no_pane, too_many, gone, empty_slot, full, spent, typed, no_memory, ticked, quiet, sent, not_sent, fragment, unread, all_taken, no_room, no_memory_at_act, bad_change, whole, used, started, watching, unfit, is_unfit}
use Rattle.roam_model.specs.Laws.{IsAmple, HasOneReply}
use Rattle.roam_wire.specs.declared.versions.Version.{Version}
use Rattle.roam_wire.specs.Datagrams.{DatagramValue}

-- a reply and a world are these
abbrev Are : Reply → World → Reply → World → Type 0
Are r v s u = (r ≡ s) × (v ≡ u)

both : (r r' s : Reply) (v v' u : World) → Are r v s u → Are r' v' s u → (r ≡ r') × (v ≡ v')
both r r' s v v' u a b = (a.0 ∙ sym b.0, a.1 ∙ sym b.1)

-- ---- inputs

abbrev ByPane : World → ℕ → List ℕ → Option Fault → Reply → World → Type 0
ByPane w pane bytes (Some fault) r v = Are r v (Failed fault) w
ByPane w pane bytes None r v = Are r v Done (with_server w (after_input w.server (Given pane bytes)))

by_pane : (w : World) (pane : ℕ) (bytes : List ℕ) (r : Reply) (v : World) → PaneBytesStep w pane bytes r v
    → ByPane w pane bytes (refuses_bytes w.server.size w.server.log pane bytes) r v
by_pane w pane bytes r v (refused f x e is) = subst (λ (o : Option Fault). ByPane w pane bytes o r v) (sym x) (e, is)
by_pane w pane bytes r v (taken x e is) = subst (λ (o : Option Fault). ByPane w pane bytes o r v) (sym x) (e, is)

one_pane : (w : World) (pane : ℕ) (bytes : List ℕ) (o : Option Fault) (r r' : Reply) (v v' : World) → ByPane w pane bytes o r v
    → ByPane w pane bytes o r' v' → (r ≡ r') × (v ≡ v')
one_pane w pane bytes (Some f) r r' v v' a b = both r r' (Failed f) v v' w a b
one_pane w pane bytes None r r' v v' a b = both r r' Done v v' (with_server w (after_input w.server (Given pane bytes))) a b

abbrev ByDrain : World → ℕ → ℕ → Option (List ℕ) → Reply → World → Type 0
ByDrain w pane n None r v = Are r v (Failed NoPane) w
ByDrain w pane n (Some output) r v =
    ((length output < n) × Are r v Refused w) ⊎ ((n ≤ length output) × Are r v Done (with_server w (after_input w.server (Drained pane n))))

by_drain : (w : World) (pane n : ℕ) (r : Reply) (v : World) → DrainStep w pane n r v
    → ByDrain w pane n (output_at w.server.size w.server.log pane) r v
by_drain w pane n r v (no_pane x e is) = subst (λ (o : Option (List ℕ)). ByDrain w pane n o r v) (sym x) (e, is)
by_drain w pane n r v (too_many out x lt e is) = subst (λ (o : Option (List ℕ)). ByDrain w pane n o r v) (sym x) (inl (lt, (e, is)))
by_drain w pane n r v (gone out x le e is) = subst (λ (o : Option (List ℕ)). ByDrain w pane n o r v) (sym x) (inr (le, (e, is)))

one_drain : (w : World) (pane n : ℕ) (o : Option (List ℕ)) (r r' : Reply) (v v' : World) → ByDrain w pane n o r v
    → ByDrain w pane n o r' v' → (r ≡ r') × (v ≡ v')
one_drain w pane n None r r' v v' a b = both r r' (Failed NoPane) v v' w a b
one_drain w pane n (Some out) r r' v v' a b =
    elim a [
      | inl x ↦ elim b [
        | inl y ↦ both r r' Refused v v' w x.1 y.1
        | inr y ↦ absurd (let lt = x.0 in let le = y.0 in omega (arith, lt, le))
      ]
      | inr x ↦ elim b [
        | inl y ↦ absurd (let lt = y.0 in let le = x.0 in omega (arith, lt, le))
        | inr y ↦ both r r' Done v v' (with_server w (after_input w.server (Drained pane n))) x.1 y.1
      ]
    ]

-- ---- typing

abbrev ByWatching : World → Act → ℕ → Bool → Reply → World → Type 0
ByWatching w act id true r v = Are r v (Failed Watching) w
ByWatching w act id false r v =
    (IsFull (w.clients id).kept.acts × Are r v (Failed Busy) w)
    ⊎ (IsSpent (w.clients id).kept.acts × Are r v (Failed Spent) w)
    ⊎ ((IsFull (w.clients id).kept.acts → ⊥) × (IsSpent (w.clients id).kept.acts → ⊥)
    × Are r v Done (with_client w id (after_act (w.clients id) act)))

abbrev ByTyped : World → Act → Option ℕ → Reply → World → Type 0
ByTyped w act None r v = Are r v Refused w
ByTyped w act (Some id) r v = ByWatching w act id (w.clients id).kept.watches r v

by_typed : (w : World) (slot : ℕ) (act : Act) (r : Reply) (v : World) → TypedStep w slot act r v → IsAmple r
    → ByTyped w act (w.slots slot) r v
by_typed w slot act r v (empty_slot x e is) m = subst (λ (o : Option ℕ). ByTyped w act o r v) (sym x) (e, is)
by_typed w slot act r v (watching id x q e is) m =
    subst (λ (o : Option ℕ). ByTyped w act o r v) (sym x) (subst (λ (b : Bool). ByWatching w act id b r v) (sym q) (e, is))
by_typed w slot act r v (full id x q y e is) m =
    subst (λ (o : Option ℕ). ByTyped w act o r v) (sym x) (subst (λ (b : Bool). ByWatching w act id b r v) (sym q) (inl (y, (e, is))))
by_typed w slot act r v (spent id x q y e is) m =
    subst (λ (o : Option ℕ). ByTyped w act o r v) (sym x) (subst (λ (b : Bool). ByWatching w act id b r v) (sym q) (inr (inl (y, (e, is)))))
by_typed w slot act r v (typed id x q y z e is) m =
    subst (λ (o : Option ℕ). ByTyped w act o r v) (sym x)
    (subst (λ (b : Bool). ByWatching w act id b r v) (sym q) (inr (inr (y, z, (e, is)))))
by_typed w slot act r v (no_memory e is) m = absurd (m.whole e)

one_watching : (w : World) (act : Act) (id : ℕ) (b : Bool) (r r' : Reply) (v v' : World) → ByWatching w act id b r v
    → ByWatching w act id b r' v' → (r ≡ r') × (v ≡ v')
one_watching w act id true r r' v v' a b = both r r' (Failed Watching) v v' w a b
one_watching w act id false r r' v v' a b =
    elim a [
      | inl x ↦ elim b [
        | inl y ↦ both r r' (Failed Busy) v v' w x.1 y.1
        | inr y ↦ elim y [ inl z ↦ absurd (clash x.0 z.0) | inr z ↦ absurd (z.0 x.0) ]
      ]
      | inr x ↦ elim x [
        | inl y ↦ elim b [
          | inl z ↦ absurd (clash z.0 y.0)
          | inr z ↦ elim z [ inl q ↦ both r r' (Failed Spent) v v' w y.1 q.1 | inr q ↦ absurd (q.1 y.0) ]
        ]
        | inr y ↦ elim b [
          | inl z ↦ absurd (y.0 z.0)
          | inr z ↦ elim z [
            | inl q ↦ absurd (y.1 q.0)
            | inr q ↦ both r r' Done v v' (with_client w id (after_act (w.clients id) act))
                y.2 q.2
          ]
        ]
      ]
    ]
  where
    clash : IsFull (w.clients id).kept.acts → IsSpent (w.clients id).kept.acts → ⊥
    clash f s = let lt = s.0 in omega (arith, f, lt)

one_typed : (w : World) (act : Act) (o : Option ℕ) (r r' : Reply) (v v' : World) → ByTyped w act o r v → ByTyped w act o r' v'
    → (r ≡ r') × (v ≡ v')
one_typed w act None r r' v v' a b = both r r' Refused v v' w a b
one_typed w act (Some id) r r' v v' a b = one_watching w act id (w.clients id).kept.watches r r' v v' a b

-- ---- ticks

abbrev BySpent : World → ℕ → Bool → Reply → World → Type 0
BySpent w now true r v = Are r v (Failed Spent) w
BySpent w now false r v = Are r v (Sent (length w.sent + 1) (length (sent_by w.server now))) (after_server_tick w now)

by_server_tick : (w : World) (now : ℕ) (r : Reply) (v : World) → ServerTickStep w now r v → IsAmple r
    → BySpent w (moment w.server now) (is_tick_spent w.server (moment w.server now)) r v
by_server_tick w now r v (spent x e is) m = subst (λ (b : Bool). BySpent w (moment w.server now) b r v) (sym x) (e, is)
by_server_tick w now r v (ticked x e is) m = subst (λ (b : Bool). BySpent w (moment w.server now) b r v) (sym x) (e, is)
by_server_tick w now r v (no_memory e is) m = absurd (m.whole e)

one_server_tick : (w : World) (now : ℕ) (b : Bool) (r r' : Reply) (v v' : World) → BySpent w now b r v → BySpent w now b r' v'
    → (r ≡ r') × (v ≡ v')
one_server_tick w now true r r' v v' x y = both r r' (Failed Spent) v v' w x y
one_server_tick w now false r r' v v' x y = both r r' (Sent (length w.sent + 1) (length (sent_by w.server now))) v v'
    (after_server_tick w now) x y

-- at the instance of an id: whether something is due, and whether numbers are spent
abbrev ByDue : World → ℕ → ℕ → Bool → Bool → Reply → World → Type 0
ByDue w id now false past r v = Are r v (Sent (length w.sent + 1) 0) (with_kept w id (after_quiet (w.clients id).kept now))
ByDue w id now true true r v = Are r v (Failed Spent) w
ByDue w id now true false r v = Are r v (Sent (length w.sent + 1) (length (datagrams_from w.server.session id (w.clients id).kept)))
    (after_client_sent w id now)

abbrev ByClientTick : World → ℕ → Option ℕ → Reply → World → Type 0
ByClientTick w now None r v = Are r v Refused w
ByClientTick w now (Some id) r v =
    ByDue w id (moment_of (w.clients id).kept now) (is_client_due (w.clients id).kept (moment_of (w.clients id).kept now))
    (is_client_spent (w.clients id).kept) r v

by_client_tick : (w : World) (slot now : ℕ) (r : Reply) (v : World) → ClientTickStep w slot now r v → IsAmple r
    → ByClientTick w now (w.slots slot) r v
by_client_tick w slot now r v (empty_slot x e is) m = subst (λ (o : Option ℕ). ByClientTick w now o r v) (sym x) (e, is)
by_client_tick w slot now r v (quiet id x y e is) m =
    subst (λ (o : Option ℕ). ByClientTick w now o r v) (sym x)
    (subst (λ (b : Bool). ByDue w id (moment_of (w.clients id).kept now) b (is_client_spent (w.clients id).kept) r v) (sym y) (e, is))
by_client_tick w slot now r v (spent id x y z e is) m =
    subst (λ (o : Option ℕ). ByClientTick w now o r v) (sym x)
    (subst (λ (b : Bool). ByDue w id (moment_of (w.clients id).kept now) b (is_client_spent (w.clients id).kept) r v) (sym y)
    (subst (λ (b : Bool). ByDue w id (moment_of (w.clients id).kept now) true b r v) (sym z) (e, is)))
by_client_tick w slot now r v (sent id x y z e is) m =
    subst (λ (o : Option ℕ). ByClientTick w now o r v) (sym x)
    (subst (λ (b : Bool). ByDue w id (moment_of (w.clients id).kept now) b (is_client_spent (w.clients id).kept) r v) (sym y)
    (subst (λ (b : Bool). ByDue w id (moment_of (w.clients id).kept now) true b r v) (sym z) (e, is)))
by_client_tick w slot now r v (no_memory e is) m = absurd (m.whole e)

one_due : (w : World) (id now : ℕ) (a b : Bool) (r r' : Reply) (v v' : World) → ByDue w id now a b r v → ByDue w id now a b r' v'
    → (r ≡ r') × (v ≡ v')
one_due w id now false b r r' v v' x y =
    both r r' (Sent (length w.sent + 1) 0) v v' (with_kept w id (after_quiet (w.clients id).kept now)) x y
one_due w id now true true r r' v v' x y = both r r' (Failed Spent) v v' w x y
one_due w id now true false r r' v v' x y = both r r'
    (Sent (length w.sent + 1) (length (datagrams_from w.server.session id (w.clients id).kept))) v v' (after_client_sent w id now) x y

one_client_tick : (w : World) (now : ℕ) (o : Option ℕ) (r r' : Reply) (v v' : World) → ByClientTick w now o r v
    → ByClientTick w now o r' v' → (r ≡ r') × (v ≡ v')
one_client_tick w now None r r' v v' x y = both r r' Refused v v' w x y
one_client_tick w now (Some id) r r' v v' x y =
    one_due w id (moment_of (w.clients id).kept now) (is_client_due (w.clients id).kept (moment_of (w.clients id).kept now))
    (is_client_spent (w.clients id).kept) r r' v v' x y

-- ---- a datagram to the server

abbrev ByRoom : World → Address → ℕ → DatagramValue → Gathering → UpValue → Bool → Reply → World → Type 0
ByRoom w from now d g u true r v =
    Are r v (Stopped Busy (room_for w.server d u))
    (with_server w (after_acts w.server d from now (w.server.records d.client).gathering u (room_for w.server d u)))
ByRoom w from now d g u false r v =
    Are r v (Taken (length (new_acts w.server d u))) (with_server w (after_acts w.server d from now g u (length (new_acts w.server d u))))

abbrev has_no_room : World → DatagramValue → UpValue → Bool
has_no_room w d u = nat_lt (room_for w.server d u) (length (new_acts w.server d u))

abbrev ByText : World → Address → ℕ → DatagramValue → Gathering → List ℕ → Reply → World → Type 0
ByText w from now d g text r v =
    ((why : Reason) × SaysNoUp (is_watching d.kind) text why × Are r v (Stopped (BadDatagram why) 0) w)
    ⊎ ((u : UpValue) × SaysUp (is_watching d.kind) text u × ByRoom w from now d g u (has_no_room w d u) r v)

abbrev ByComing : World → Address → ℕ → DatagramValue → Arrival (Unit {0}) → Reply → World → Type 0
ByComing w from now d (turned_away fault) r v = Are r v (Stopped fault 0) w
ByComing w from now d (noted tt g) r v = Are r v (Taken 0) (with_server w (after_note w.server d from now g))
ByComing w from now d (completed g text) r v = ByText w from now d g text r v

abbrev ByServer : World → Address → ℕ → Option DatagramValue → Reply → World → Type 0
ByServer w from now None r v = Are r v Refused w
ByServer w from now (Some d) r v = ByComing w from now d (coming w.server d) r v

by_server : (w : World) (k : ℕ) (from : Address) (now : ℕ) (r : Reply) (v : World) → ToServerStep w k from now r v → IsAmple r
    → ByServer w from (moment w.server now) (datagram_at w.sent k) r v
by_server w k from now r v step m = go step
  where
    at : (d : DatagramValue) (x : Arrival (Unit {0})) → datagram_at w.sent k ≡ Some d → coming w.server d ≡ x
        → ByComing w from (moment w.server now) d x r v
        → ByServer w from (moment w.server now) (datagram_at w.sent k) r v
    at d x e f b =
        subst (λ (o : Option DatagramValue). ByServer w from (moment w.server now) o r v) (sym e)
        (subst (λ (c : Arrival (Unit {0})). ByComing w from (moment w.server now) d c r v) (sym f) b)

    level : (a b : ℕ) → a ≡ b → nat_lt a b ≡ false
    level a b z = grind (arith, nat_tests)

    below : (a b : ℕ) → a < b → nat_lt a b ≡ true
    below a b z = grind (arith, nat_tests)

    go : ToServerStep w k from now r v → ByServer w from (moment w.server now) (datagram_at w.sent k) r v
    go (not_sent x e is) = subst (λ (o : Option DatagramValue). ByServer w from (moment w.server now) o r v) (sym x) (e, is)
    go (refused d f x y e is) = at d (turned_away f) x y (e, is)
    go (fragment d g x y e is) = at d (noted tt g) x y (e, is)
    go (unread d g text why x y z e is) = at d (completed g text) x y (inl (why, z, (e, is)))
    go (all_taken d g text u x y z a e is) =
        at d (completed g text) x y (inr (
          u,
          z,
          subst (λ (b : Bool). ByRoom w from (moment w.server now) d g u b r v)
              (sym (level (room_for w.server d u) (length (new_acts w.server d u)) a)) (e, is),
        ))
    go (no_room d g text u x y z a e is) =
        at d (completed g text) x y (inr (
          u,
          z,
          subst (λ (b : Bool). ByRoom w from (moment w.server now) d g u b r v)
              (sym (below (room_for w.server d u) (length (new_acts w.server d u)) a)) (e, is),
        ))
    go (no_memory_at_act d g text u n x y z lt e is) = absurd (m.part n e)
    go (no_memory e is) = absurd (m.part 0 e)

one_room : (w : World) (from : Address) (now : ℕ) (d : DatagramValue) (g : Gathering) (u : UpValue) (b : Bool) (r r' : Reply) (v v' : World)
    → ByRoom w from now d g u b r v → ByRoom w from now d g u b r' v' → (r ≡ r') × (v ≡ v')
one_room w from now d g u true r r' v v' x y =
    both r r' (Stopped Busy (room_for w.server d u)) v v'
    (with_server w (after_acts w.server d from now (w.server.records d.client).gathering u (room_for w.server d u))) x y
one_room w from now d g u false r r' v v' x y =
    both r r' (Taken (length (new_acts w.server d u))) v v'
    (with_server w (after_acts w.server d from now g u (length (new_acts w.server d u)))) x y

one_coming : (w : World) (from : Address) (now : ℕ) (d : DatagramValue) (c : Arrival (Unit {0})) (r r' : Reply) (v v' : World)
    → ByComing w from now d c r v → ByComing w from now d c r' v' → (r ≡ r') × (v ≡ v')
one_coming w from now d (turned_away f) r r' v v' x y = both r r' (Stopped f 0) v v' w x y
one_coming w from now d (noted tt g) r r' v v' x y = both r r' (Taken 0) v v' (with_server w (after_note w.server d from now g)) x y
one_coming w from now d (completed g text) r r' v v' x y =
    elim x [
      | inl a ↦ elim y [
        | inl b ↦ (let why : a.0 ≡ b.0 = a.1.reason ∙ sym b.1.reason in
            both r r' (Stopped (BadDatagram a.0) 0) v v' w a.2 (b.2.0 ∙ ap (λ (k : Reason). Stopped (BadDatagram k) 0) (sym why), b.2.1))
        | inr b ↦ absurd (a.1.none b.0 b.1.is b.1.spelled)
      ]
      | inr a ↦ elim y [
        | inl b ↦ absurd (b.1.none a.0 a.1.is a.1.spelled)
        | inr b ↦ (let same : b.0 ≡ a.0 = one_up b.0 a.0 b.1.is.is a.1.is.is (sym b.1.spelled ∙ a.1.spelled) in
            one_room w from now d g a.0 (has_no_room w d a.0) r r' v v' a.2
            (subst (λ (u : UpValue). ByRoom w from now d g u (has_no_room w d u) r' v') same b.2))
      ]
    ]

one_server : (w : World) (from : Address) (now : ℕ) (o : Option DatagramValue) (r r' : Reply) (v v' : World)
    → ByServer w from now o r v → ByServer w from now o r' v' → (r ≡ r') × (v ≡ v')
one_server w from now None r r' v v' x y = both r r' Refused v v' w x y
one_server w from now (Some d) r r' v v' x y = one_coming w from now d (coming w.server d) r r' v v' x y

-- ---- a datagram to a client instance

-- the result of a receiver for an update is unique
delivers_one : (a : Version) (c r r' : Receiving Screenshot) (u : Update) → Delivers (applied_by a) c u r → Delivers (applied_by a) c u r' → r ≡ r'
delivers_one v c r r' u d e = go (step_for c u.old u.new u.floor) refl
  where
    none : (x : Step) → step_for c u.old u.new u.floor ≡ x → (x ≡ step.New → ⊥) → r ≡ r'
    none x f other = d.other (λ n. other (sym f ∙ n)) ∙ sym (e.other (λ n. other (sym f ∙ n)))

    go : (x : Step) → step_for c u.old u.new u.floor ≡ x → r ≡ r'
    go step.Old f = none step.Old f (λ n. cc)
    go step.Gap f = none step.Gap f (λ n. cc)
    go step.New f =
        let a = d.fresh f in
        let b = e.fresh f in
        let held : Some a.base ≡ Some b.base = sym a.held ∙ b.held in
        let base : a.base ≡ b.base = cc in
        let states : Some r.newest.state ≡ Some r'.newest.state = sym a.leads ∙ ap (λ (s : Screenshot). applied_by v s u.change) base
        ∙ b.leads in
        let state : r.newest.state ≡ r'.newest.state = cc in
        let number : r.newest.number ≡ r'.newest.number = a.number ∙ sym b.number in
        let earlier = a.earlier ∙ sym b.earlier in
        λ i. record { earlier = earlier i; newest = record { number = number i; state = state i } }

-- its diff is bad, or the receiver hears its update
pub record IsBad (w : World) (id : ℕ) (u : DownValue) : Type 0 where
  pub new : step_of (w.clients id).kept u ≡ step.New
  pub base : Screenshot
  pub there : state_at u.old (pairs (w.clients id).kept.receiver) ≡ Some base
  pub none : applied_by (w.clients id).kept.version base u.change ≡ None

abbrev ByDown : World → ℕ → ℕ → Gathering → DownValue → Reply → World → Type 0
ByDown w id now g u r v =
    (IsBad w id u × Are r v (Failed BadChange) w)
    ⊎ ((q : Receiving Screenshot) × Delivers (applied_by (w.clients id).kept.version) (w.clients id).kept.receiver (update_in u) q
    × Are r v (Heard (hearing_of (step_of (w.clients id).kept u))) (with_kept w id (after_whole (w.clients id).kept now g q u)))

abbrev ByArriving : World → ℕ → ℕ → Arrival Hearing → Reply → World → Type 0
ByArriving w id now (turned_away fault) r v = Are r v (Failed fault) w
ByArriving w id now (noted h g) r v = Are r v (Heard h) (with_kept w id (after_fragment (w.clients id).kept now g))
ByArriving w id now (completed g text) r v =
    ((why : Reason) × SaysNoDown text why × Are r v (Failed (BadDatagram why)) w)
    ⊎ ((u : DownValue) × SaysDown text u × ByDown w id now g u r v)

abbrev ByClient : World → ℕ → Option ℕ → Option DatagramValue → Reply → World → Type 0
ByClient w now None o r v = Are r v Refused w
ByClient w now (Some id) None r v = Are r v Refused w
ByClient w now (Some id) (Some d) r v =
    ByArriving w id (moment_of (w.clients id).kept now) (arriving w.server.session id (w.clients id).kept d) r v

by_client : (w : World) (slot k now : ℕ) (r : Reply) (v : World) → ToClientStep w slot k now r v → IsAmple r
    → ByClient w now (w.slots slot) (datagram_at w.sent k) r v
by_client w slot k now r v step m = go step
  where
    no_datagram : (o : Option ℕ) → Are r v Refused w → ByClient w now o None r v
    no_datagram None a = a
    no_datagram (Some id) a = a

    at : (id : ℕ) (d : DatagramValue) (x : Arrival Hearing) → w.slots slot ≡ Some id → datagram_at w.sent k ≡ Some d
        → arriving w.server.session id (w.clients id).kept d ≡ x
        → ByArriving w id (moment_of (w.clients id).kept now) x r v → ByClient w now (w.slots slot) (datagram_at w.sent k) r v
    at id d x e f g b =
        subst (λ (o : Option ℕ). ByClient w now o (datagram_at w.sent k) r v) (sym e)
        (subst (λ (o : Option DatagramValue). ByClient w now (Some id) o r v) (sym f)
        (subst (λ (c : Arrival Hearing). ByArriving w id (moment_of (w.clients id).kept now) c r v) (sym g) b))

    go : ToClientStep w slot k now r v → ByClient w now (w.slots slot) (datagram_at w.sent k) r v
    go (empty_slot x e is) = subst (λ (o : Option ℕ). ByClient w now o (datagram_at w.sent k) r v) (sym x) (e, is)
    go (not_sent x e is) = subst (λ (o : Option DatagramValue). ByClient w now (w.slots slot) o r v) (sym x)
        (no_datagram (w.slots slot) (e, is))
    go (refused id d f x y z e is) = at id d (turned_away f) x y z (e, is)
    go (fragment id d h g x y z e is) = at id d (noted h g) x y z (e, is)
    go (unread id d g text why x y z a e is) = at id d (completed g text) x y z (inl (why, a, (e, is)))
    go (bad_change id d g text u base x y z a new there none e is) =
        at id d (completed g text) x y z (inr (u, a, inl (record { new = new; base = base; there = there; none = none }, (e, is))))
    go (whole id d g text u q x y z a b e is) = at id d (completed g text) x y z (inr (u, a, inr (q, b, (e, is))))
    go (no_memory e is) = absurd (m.whole e)

one_down_reply : (w : World) (id now : ℕ) (g : Gathering) (u : DownValue) (r r' : Reply) (v v' : World) → ByDown w id now g u r v
    → ByDown w id now g u r' v' → (r ≡ r') × (v ≡ v')
one_down_reply w id now g u r r' v v' x y =
    elim x [
      | inl a ↦ elim y [ inl b ↦ both r r' (Failed BadChange) v v' w a.1 b.1 | inr b ↦ absurd (clash a.0 b.0 b.1) ]
      | inr a ↦ elim y [
        | inl b ↦ absurd (clash b.0 a.0 a.1)
        | inr b ↦ (let same = delivers_one (w.clients id).kept.version (w.clients id).kept.receiver b.0 a.0 (update_in u) b.1 a.1 in
            both r r' (Heard (hearing_of (step_of (w.clients id).kept u))) v v'
            (with_kept w id (after_whole (w.clients id).kept now g a.0 u)) a.2
            (b.2.0, b.2.1 ∙ ap (λ (q : Receiving Screenshot). with_kept w id (after_whole (w.clients id).kept now g q u)) same))
      ]
    ]
  where
    clash : IsBad w id u → (q : Receiving Screenshot)
        → Delivers (applied_by (w.clients id).kept.version) (w.clients id).kept.receiver (update_in u) q → ⊥
    clash bad q d =
        let t = d.fresh bad.new in
        let held : Some t.base ≡ Some bad.base = sym t.held ∙ bad.there in
        let base : t.base ≡ bad.base = cc in
        let no : Some q.newest.state ≡ None =
        sym t.leads ∙ ap (λ (s : Screenshot). applied_by (w.clients id).kept.version s u.change) base ∙ bad.none in
        cc

one_arriving : (w : World) (id now : ℕ) (c : Arrival Hearing) (r r' : Reply) (v v' : World) → ByArriving w id now c r v
    → ByArriving w id now c r' v' → (r ≡ r') × (v ≡ v')
one_arriving w id now (turned_away f) r r' v v' x y = both r r' (Failed f) v v' w x y
one_arriving w id now (noted h g) r r' v v' x y = both r r' (Heard h) v v' (with_kept w id (after_fragment (w.clients id).kept now g)) x y
one_arriving w id now (completed g text) r r' v v' x y =
    elim x [
      | inl a ↦ elim y [
        | inl b ↦ (let why : a.0 ≡ b.0 = a.1.reason ∙ sym b.1.reason in
            both r r' (Failed (BadDatagram a.0)) v v' w a.2 (b.2.0 ∙ ap (λ (k : Reason). Failed (BadDatagram k)) (sym why), b.2.1))
        | inr b ↦ absurd (a.1.none b.0 b.1.is b.1.spelled)
      ]
      | inr a ↦ elim y [
        | inl b ↦ absurd (b.1.none a.0 a.1.is a.1.spelled)
        | inr b ↦ (let same : b.0 ≡ a.0 = one_down b.0 a.0 b.1.is a.1.is (sym b.1.spelled ∙ a.1.spelled) in
            one_down_reply w id now g a.0 r r' v v' a.2 (subst (λ (u : DownValue). ByDown w id now g u r' v') same b.2))
      ]
    ]

one_client : (w : World) (now : ℕ) (o : Option ℕ) (p : Option DatagramValue) (r r' : Reply) (v v' : World) → ByClient w now o p r v
    → ByClient w now o p r' v' → (r ≡ r') × (v ≡ v')
one_client w now None p r r' v v' x y = both r r' Refused v v' w x y
one_client w now (Some id) None r r' v v' x y = both r r' Refused v v' w x y
one_client w now (Some id) (Some d) r r' v v' x y =
    one_arriving w id (moment_of (w.clients id).kept now) (arriving w.server.session id (w.clients id).kept d) r r' v v' x y

-- ---- an instance

-- of an instance whose id was used, or not; that may not be, or may
abbrev ByStart : World → ℕ → ℕ → Version → Bool → Bool → Bool → Reply → World → Type 0
ByStart w slot id at watches true b r v = Are r v Refused w
ByStart w slot id at watches false true r v = Are r v Refused w
ByStart w slot id at watches false false r v = Are r v Done (after_start w slot id at watches)

by_start : (w : World) (slot id : ℕ) (at : Version) (watches : Bool) (r : Reply) (v : World) → StartStep w slot id at watches r v → IsAmple r
    → ByStart w slot id at watches (w.clients id).made (is_unfit at watches) r v
by_start w slot id at watches r v (used x e is) m =
    subst (λ (b : Bool). ByStart w slot id at watches b (is_unfit at watches) r v) (sym x) (e, is)
by_start w slot id at watches r v (unfit x e is) m =
    subst (λ (b : Bool). ByStart w slot id at watches (w.clients id).made b r v) (sym x) (go (w.clients id).made)
  where
    go : (b : Bool) → ByStart w slot id at watches b true r v
    go true = (e, is)
    go false = (e, is)
by_start w slot id at watches r v (started x y e is) m =
    subst (λ (b : Bool). ByStart w slot id at watches b (is_unfit at watches) r v) (sym x)
    (subst (λ (b : Bool). ByStart w slot id at watches false b r v) (sym y) (e, is))
by_start w slot id at watches r v (no_memory e is) m = absurd (m.whole e)

one_start : (w : World) (slot id : ℕ) (at : Version) (watches b c : Bool) (r r' : Reply) (v v' : World)
    → ByStart w slot id at watches b c r v → ByStart w slot id at watches b c r' v' → (r ≡ r') × (v ≡ v')
one_start w slot id at watches true c r r' v v' x y = both r r' Refused v v' w x y
one_start w slot id at watches false true r r' v v' x y = both r r' Refused v v' w x y
one_start w slot id at watches false false r r' v v' x y = both r r' Done v v' (after_start w slot id at watches) x y

-- ---- all events

pub one_reply : (w : World) → HasOneReply w
one_reply w (PaneBytes p bytes) r r' v v' s t m n =
    one_pane w p bytes (refuses_bytes w.server.size w.server.log p bytes) r r' v v' (by_pane w p bytes r v s) (by_pane w p bytes r' v' t)
one_reply w (Typed slot act) r r' v v' s t m n =
    one_typed w act (w.slots slot) r r' v v' (by_typed w slot act r v s m) (by_typed w slot act r' v' t n)
one_reply w (ServerTick now) r r' v v' s t m n =
    one_server_tick w (moment w.server now) (is_tick_spent w.server (moment w.server now)) r r' v v' (by_server_tick w now r v s m)
    (by_server_tick w now r' v' t n)
one_reply w (ClientTick slot now) r r' v v' s t m n =
    one_client_tick w now (w.slots slot) r r' v v' (by_client_tick w slot now r v s m) (by_client_tick w slot now r' v' t n)
one_reply w (ToServer k from now) r r' v v' s t m n =
    one_server w from (moment w.server now) (datagram_at w.sent k) r r' v v' (by_server w k from now r v s m)
    (by_server w k from now r' v' t n)
one_reply w (ToClient slot k now) r r' v v' s t m n =
    one_client w now (w.slots slot) (datagram_at w.sent k) r r' v v' (by_client w slot k now r v s m) (by_client w slot k now r' v' t n)
one_reply w (Start slot id at watches) r r' v v' s t m n =
    one_start w slot id at watches (w.clients id).made (is_unfit at watches) r r' v v' (by_start w slot id at watches r v s m)
    (by_start w slot id at watches r' v' t n)
one_reply w (Drain p n) r r' v v' s t m q = one_drain w p n (output_at w.server.size w.server.log p) r r' v v' (by_drain w p n r v s)
    (by_drain w p n r' v' t)
