-- Whole runs: an invariant at first and after each step is one of every world that can be reached.
use Rattle.std.proofs.Common.{◌≡◌, ℕ, suc, ◌-◌, ◌≤◌, List, [], ◌∷◌, ◌++◌, length, Some, None, Bool, true, false, refl, sym, subst, arith, cond}
use Rattle.std.specs.Prelude.{nat_eq, slice_get}
use Rattle.std.proofs.lemmas.List.Elements.{All-nil}
use Rattle.roam_acts.specs.declared.acts.Act.{Act}
use Rattle.roam_acts.specs.Acts.{IsAct}
use Rattle.roam_sync.proofs.TrueStates.{true_at_first}
use Rattle.roam_sync.proofs.Steps.{in_step_at_first}
use Rattle.roam_wire.specs.Instructions.{DownValue, down_text, UpValue, up_text}
use Rattle.roam_layout.specs.Layouts.{IsSessionSize}
use Rattle.roam_session.specs.Sessions.{SessionSize, Entry, Given, Did, Drained}
use Rattle.roam_session.specs.Refusals.{stops}
use Rattle.roam_model.specs.Versions.{IsSeenBy, applied_by}
use Rattle.roam_model.proofs.Versions.{first_seen}
use Rattle.roam_model.specs.Lists.{IsIn}
use Rattle.roam_model.specs.Numbers.{first_screen, screen, IsScreenOf}
use Rattle.roam_model.specs.Texts.{Address, SaysDown, SaysUp, is_to_server, is_watching}
use Rattle.roam_model.specs.Servers.{new_server, no_record, moment}
use Rattle.roam_model.specs.ServerArrivals.{coming, new_acts, room_for, reach}
use Rattle.roam_model.specs.Clients.{nobody, moment_of}
use Rattle.roam_model.specs.ClientArrivals.{arriving}
use Rattle.roam_model.specs.Worlds.{World, new_world, Event, PaneBytes, Typed, ServerTick, ClientTick, ToServer, ToClient, Start, Drain, Reply, datagram_at}
use Rattle.roam_model.specs.Steps.{PaneBytesStep, DrainStep, TypedStep, ServerTickStep, ClientTickStep, ToServerStep, ToClientStep, StartStep, refused, taken, no_pane, too_many, gone, empty_slot, full, spent, typed, no_memory, ticked, quiet, sent, not_sent, fragment, unread, all_taken, no_room, no_memory_at_act, bad_change, whole, used, started, wstep, Run, watching, unfit}
use Rattle.roam_model.specs.Laws.{IsEvent, AreEvents, Always}
use Rattle.roam_model.specs.Holds.{Tells, Acks, IsFragment, Holds}
use Rattle.roam_model.proofs.Members.{IsIn-slice_get}
use Rattle.roam_model.proofs.Screens.{first_is}
use Rattle.roam_model.proofs.Fragments.{IsTextOf, gathers-nothing}
use Rattle.roam_model.proofs.Comes.{ComesWell, coming_well, says_up, ArrivesWell, arriving_well, says_down, IsTo, to_server}
use Rattle.roam_model.proofs.Keeps.{keeps-input, keeps-typed, keeps-quiet, keeps-fragment, keeps-whole, keeps-sending, keeps-start}
use Rattle.roam_model.proofs.ServerKeeps.{keeps-note, keeps-acts, keeps-tick}
use Rattle.roam_wire.specs.declared.versions.Version.{Version}
use Rattle.roam_wire.specs.declared.versions.Version.TheVariants.{Two}
use Rattle.roam_wire.specs.Datagrams.{DatagramValue}

-- ---- the datagrams that were sent

-- a datagram of the list was sent
pub was_sent : (w : World) (k : ℕ) (d : DatagramValue) → datagram_at w.sent k ≡ Some d → IsIn d w.sent
was_sent w k d e = go (nat_eq k 0) e
  where
    go : (b : Bool) → cond b None (slice_get w.sent (k - 1)) ≡ Some d → IsIn d w.sent
    go true f = absurd (cc)
    go false f = IsIn-slice_get d (k - 1) w.sent f

-- the kind of a sent datagram at the server, and at a client instance
pub comes : (w : World) (k : ℕ) (d : DatagramValue) → datagram_at w.sent k ≡ Some d → Holds w
    → ComesWell (w.clients d.client).instructions (coming w.server d)
comes w k d e h = coming_well w.server (w.server.records d.client) (w.clients d.client) d refl (h.fragments d (was_sent w k d e))
    (h.links d.client).gathers_up

pub arrives : (w : World) (id k : ℕ) (d : DatagramValue) → datagram_at w.sent k ≡ Some d → Holds w
    → ArrivesWell (w.server.records id).instructions (arriving w.server.session id (w.clients id).kept d)
arrives w id k d e h =
    arriving_well w.server.session id (w.server.records id) (w.clients id) d
    (λ same. subst (λ (i : ℕ). IsFragment (is_to_server d.kind) d (w.server.records i) (w.clients i)) same (h.fragments d (was_sent w k d e)))
    (h.links id).gathers_down

pub reach_low : (size : SessionSize) (log : List Entry) (id : ℕ) (acts : List Act) → reach size log id acts ≤ length acts
reach_low size log id [] = omega arith
reach_low size log id (a ∷ acts) = go (stops size log a) (reach_low size (log ++ Did id a ∷ []) id acts)
  where
    go : (b : Bool) → reach size (log ++ Did id a ∷ []) id acts ≤ length acts
        → cond b 0 (suc (reach size (log ++ Did id a ∷ []) id acts)) ≤ suc (length acts)
    go true le = omega arith
    go false le = omega arith

-- ---- each step

keeps-pane_bytes : (w : World) (p : ℕ) (bytes : List ℕ) (r : Reply) (w' : World) → PaneBytesStep w p bytes r w' → Holds w → Holds w'
keeps-pane_bytes w p bytes r w' (refused f x e is) h = subst Holds (sym is) h
keeps-pane_bytes w p bytes r w' (taken x e is) h = subst Holds (sym is) (keeps-input w (Given p bytes) (λ id. refl) h)

keeps-drain : (w : World) (p n : ℕ) (r : Reply) (w' : World) → DrainStep w p n r w' → Holds w → Holds w'
keeps-drain w p n r w' (no_pane x e is) h = subst Holds (sym is) h
keeps-drain w p n r w' (too_many out x y e is) h = subst Holds (sym is) h
keeps-drain w p n r w' (gone out x y e is) h = subst Holds (sym is) (keeps-input w (Drained p n) (λ id. refl) h)

keeps-typing : (w : World) (slot : ℕ) (a : Act) (r : Reply) (w' : World) → IsAct a → TypedStep w slot a r w' → Holds w → Holds w'
keeps-typing w slot a r w' act (empty_slot x e is) h = subst Holds (sym is) h
keeps-typing w slot a r w' act (watching id x y e is) h = subst Holds (sym is) h
keeps-typing w slot a r w' act (full id x q y e is) h = subst Holds (sym is) h
keeps-typing w slot a r w' act (spent id x q y e is) h = subst Holds (sym is) h
keeps-typing w slot a r w' act (typed id x q y z e is) h = subst Holds (sym is) (keeps-typed w id a (h.slots slot id x) q act y z h)
keeps-typing w slot a r w' act (no_memory e is) h = subst Holds (sym is) h

keeps-server_tick : (w : World) (now : ℕ) (r : Reply) (w' : World) → ServerTickStep w now r w' → Holds w → Holds w'
keeps-server_tick w now r w' (spent x e is) h = subst Holds (sym is) h
keeps-server_tick w now r w' (ticked x e is) h = subst Holds (sym is) (keeps-tick w (moment w.server now) x h)
keeps-server_tick w now r w' (no_memory e is) h = subst Holds (sym is) h

keeps-client_tick : (w : World) (slot now : ℕ) (r : Reply) (w' : World) → ClientTickStep w slot now r w' → Holds w → Holds w'
keeps-client_tick w slot now r w' (empty_slot x e is) h = subst Holds (sym is) h
keeps-client_tick w slot now r w' (quiet id x y e is) h =
    subst Holds (sym is) (keeps-quiet w id (moment_of (w.clients id).kept now) (h.slots slot id x) h)
keeps-client_tick w slot now r w' (spent id x y z e is) h = subst Holds (sym is) h
keeps-client_tick w slot now r w' (sent id x y z e is) h =
    subst Holds (sym is) (keeps-sending w id (moment_of (w.clients id).kept now) (h.slots slot id x) z h)
keeps-client_tick w slot now r w' (no_memory e is) h = subst Holds (sym is) h

-- a whole instruction at the server was sent
came : (w : World) (d : DatagramValue) (text : List ℕ) (u : UpValue) → IsTextOf up_text (w.clients d.client).instructions text
    → SaysUp (is_watching d.kind) text u → Holds w → IsIn u (w.clients d.client).instructions
came w d text u of says h =
    subst (λ (x : UpValue). IsIn x (w.clients d.client).instructions)
    (says_up (w.clients d.client).instructions text u of.value (is_watching d.kind) (h.links d.client).ups of.there of.is says) of.there

keeps-to_server : (w : World) (k : ℕ) (from : Address) (now : ℕ) (r : Reply) (w' : World) → ToServerStep w k from now r w' → Holds w
    → Holds w'
keeps-to_server w k from now r w' (not_sent x e is) h = subst Holds (sym is) h
keeps-to_server w k from now r w' (refused d f x y e is) h = subst Holds (sym is) h
keeps-to_server w k from now r w' (fragment d g x y e is) h =
    subst Holds (sym is) (keeps-note w d from (moment w.server now) g (subst (IsTo (is_to_server d.kind)) y (to_server w.server d)) (h.bears d (was_sent w k d x))
    (subst (ComesWell (w.clients d.client).instructions) y (comes w k d x h)) h)
keeps-to_server w k from now r w' (unread d g text why x y z e is) h = subst Holds (sym is) h
keeps-to_server w k from now r w' (all_taken d g text u x y z a e is) h =
    let c = subst (ComesWell (w.clients d.client).instructions) y (comes w k d x h) in
    subst Holds (sym is) (keeps-acts w d from (moment w.server now) g u (length (new_acts w.server d u))
    (subst (IsTo (is_to_server d.kind)) y (to_server w.server d)) (h.bears d (was_sent w k d x)) c.0 (came w d text u c.1 z h)
    (omega arith) h)
keeps-to_server w k from now r w' (no_room d g text u x y z a e is) h =
    let c = subst (ComesWell (w.clients d.client).instructions) y (comes w k d x h) in
    subst Holds (sym is) (keeps-acts w d from (moment w.server now) (w.server.records d.client).gathering u (room_for w.server d u)
    (subst (IsTo (is_to_server d.kind)) y (to_server w.server d)) (h.bears d (was_sent w k d x)) (h.links d.client).gathers_up (came w d text u c.1 z h) (omega arith) h)
keeps-to_server w k from now r w' (no_memory_at_act d g text u n x y z lt e is) h =
    let c = subst (ComesWell (w.clients d.client).instructions) y (comes w k d x h) in
    subst Holds (sym is) (keeps-acts w d from (moment w.server now) (w.server.records d.client).gathering u n
    (subst (IsTo (is_to_server d.kind)) y (to_server w.server d)) (h.bears d (was_sent w k d x)) (h.links d.client).gathers_up (came w d text u c.1 z h)
    (omega (arith, lt, reach_low w.server.size w.server.log d.client (new_acts w.server d u))) h)
keeps-to_server w k from now r w' (no_memory e is) h = subst Holds (sym is) h

-- a whole instruction at a client instance was sent to it
pub arrived : (w : World) (id : ℕ) (text : List ℕ) (v : DownValue) → IsTextOf down_text (w.server.records id).instructions text
    → SaysDown text v → Holds w → IsIn v (w.server.records id).instructions
arrived w id text v of says h =
    subst (λ (x : DownValue). IsIn x (w.server.records id).instructions)
    (says_down (w.server.records id).instructions text v of.value (h.links id).downs of.there of.is says) of.there

keeps-to_client : (w : World) (slot k now : ℕ) (r : Reply) (w' : World) → ToClientStep w slot k now r w' → Holds w → Holds w'
keeps-to_client w slot k now r w' (empty_slot x e is) h = subst Holds (sym is) h
keeps-to_client w slot k now r w' (not_sent x e is) h = subst Holds (sym is) h
keeps-to_client w slot k now r w' (refused id d f x y z e is) h = subst Holds (sym is) h
keeps-to_client w slot k now r w' (fragment id d how g x y z e is) h =
    let c = subst (ArrivesWell (w.server.records id).instructions) z (arrives w id k d y h) in
    subst Holds (sym is) (keeps-fragment w id (moment_of (w.clients id).kept now) g (h.slots slot id x) c.1 h)
keeps-to_client w slot k now r w' (unread id d g text why x y z a e is) h = subst Holds (sym is) h
keeps-to_client w slot k now r w' (bad_change id d g text v base x y z a b c' d' e is) h = subst Holds (sym is) h
keeps-to_client w slot k now r w' (whole id d g text v q x y z a b e is) h =
    let c = subst (ArrivesWell (w.server.records id).instructions) z (arrives w id k d y h) in
    subst Holds (sym is) (keeps-whole w id (moment_of (w.clients id).kept now) g q v (h.slots slot id x) c.0
    (arrived w id text v c.1 a h) b h)
keeps-to_client w slot k now r w' (no_memory e is) h = subst Holds (sym is) h

keeps-starting : (w : World) (slot id : ℕ) (v : Version) (watches : Bool) (r : Reply) (w' : World) → StartStep w slot id v watches r w' → Holds w → Holds w'
keeps-starting w slot id v watches r w' (used x e is) h = subst Holds (sym is) h
keeps-starting w slot id v watches r w' (unfit x e is) h = subst Holds (sym is) h
keeps-starting w slot id v watches r w' (started x y e is) h = subst Holds (sym is) (keeps-start w slot id v watches x y h)
keeps-starting w slot id v watches r w' (no_memory e is) h = subst Holds (sym is) h

pub keeps-step : (w : World) (e : Event) (r : Reply) (w' : World) → IsEvent e → wstep w e r w' → Holds w → Holds w'
keeps-step w (PaneBytes p bytes) r w' i s h = keeps-pane_bytes w p bytes r w' s h
keeps-step w (Typed slot a) r w' i s h = keeps-typing w slot a r w' i s h
keeps-step w (ServerTick now) r w' i s h = keeps-server_tick w now r w' s h
keeps-step w (ClientTick slot now) r w' i s h = keeps-client_tick w slot now r w' s h
keeps-step w (ToServer k from now) r w' i s h = keeps-to_server w k from now r w' s h
keeps-step w (ToClient slot k now) r w' i s h = keeps-to_client w slot k now r w' s h
keeps-step w (Start slot id v watches) r w' i s h = keeps-starting w slot id v watches r w' s h
keeps-step w (Drain p n) r w' i s h = keeps-drain w p n r w' s h

-- ---- a new world, and runs

pub holds-new : (session : ℕ) (size : SessionSize) → IsSessionSize size.rows size.cols → Holds (new_world session size)
unfolding new_world new_server nobody no_record
holds-new session size limits =
    record {
      size = limits;
      numbers = omega arith;
      cuts = (λ k lt. omega arith);
      screens = (λ v n le. let z : 0 ≡ n = omega arith in subst (λ (m : ℕ). IsSeenBy v (screen v size [] [] m)) z (first_seen v));
      links = (λ id. record {
        truth = true_at_first (applied_by Two) (IsScreenOf Two size [] []) first_screen (Tells []) (first_is Two size [] []) (λ u t. t.1);
        in_step = in_step_at_first first_screen (Tells []) (Acks []) (λ u t. t.1) (λ a t. t.1);
        acts = record {
          count = refl;
          front = refl;
          low = omega arith;
          typed = record { known = omega arith; held = refl };
          few = omega arith;
          below = omega arith;
          are = All-nil IsAct;
          told = (λ v i. absurd i);
        };
        downs = (λ v i. absurd i);
        ups = (λ v i. absurd i);
        gathers_down = gathers-nothing down_text [];
        gathers_up = gathers-nothing up_text [];
        count = refl;
        notes = refl;
      });
      fragments = (λ d i. absurd i);
      bears = (λ d i. absurd i);
      fits = (λ id. record { made = (λ e. absurd (cc)); version = (λ e. refl); watches = (λ e. refl); none = (λ e. refl) });
      watchers = (λ id e. absurd (let z : false ≡ true = e in cc));
      unused = (λ id e. refl);
      slots = (λ slot id e. absurd (cc));
    }

pub keeps-run : (w : World) (es : List Event) (rs : List Reply) (w' : World) → AreEvents es → Run w es rs w' → Holds w → Holds w'
keeps-run w [] [] w' i r h = subst Holds (sym r) h
keeps-run w (e ∷ es) (a ∷ rs) w' i r h = keeps-run r.0 es rs w' i.1 r.2 (keeps-step w e a r.0 i.0 r.1 h)
keeps-run w [] (a ∷ rs) w' i r h = absurd r
keeps-run w (e ∷ es) [] w' i r h = absurd r

pub holds-reached : Always Holds
holds-reached session size es rs w reaches = keeps-run (new_world session size) es rs w reaches.events reaches.run (holds-new session size reaches.limits)
