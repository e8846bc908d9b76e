-- A refusal leaves the world.
use Rattle.std.proofs.Common.{◌≡◌, ℕ, Bool, List, subst}
use Rattle.roam_wire.specs.declared.versions.Version.{Version}
use Rattle.roam_acts.specs.declared.acts.Act.{Act}
use Rattle.roam_session.specs.Sessions.{SessionSize}
use Rattle.roam_model.specs.Texts.{Address}
use Rattle.roam_model.specs.Worlds.{World, Event, PaneBytes, Typed, ServerTick, ClientTick, ToServer, ToClient, Start, Drain, Reply}
use Rattle.roam_model.specs.Steps.{PaneBytesStep, DrainStep, TypedStep, ServerTickStep, ClientTickStep, ToServerStep, ToClientStep, StartStep, refused, taken, no_pane, too_many, gone, empty_slot, full, spent, typed, no_memory, ticked, quiet, sent, not_sent, fragment, unread, all_taken, no_room, no_memory_at_act, bad_change, whole, used, started, watching, unfit, wstep}
use Rattle.roam_simulation.specs.Worlds.{WorldView, IsRefusal, Stands, StandsFor, Steps}

stays-pane_bytes : (w : World) (p : ℕ) (bytes : List ℕ) (r : Reply) (w' : World) → PaneBytesStep w p bytes r w' → IsRefusal r → w' ≡ w
stays-pane_bytes w p bytes r w' (refused f x e is) i = is
stays-pane_bytes w p bytes r w' (taken x e is) i = absurd (subst IsRefusal e i)

stays-drain : (w : World) (p n : ℕ) (r : Reply) (w' : World) → DrainStep w p n r w' → IsRefusal r → w' ≡ w
stays-drain w p n r w' (no_pane x e is) i = is
stays-drain w p n r w' (too_many out x y e is) i = is
stays-drain w p n r w' (gone out x y e is) i = absurd (subst IsRefusal e i)

stays-typed : (w : World) (slot : ℕ) (a : Act) (r : Reply) (w' : World) → TypedStep w slot a r w' → IsRefusal r → w' ≡ w
stays-typed w slot a r w' (empty_slot x e is) i = is
stays-typed w slot a r w' (watching id x y e is) i = is
stays-typed w slot a r w' (full id x y z e is) i = is
stays-typed w slot a r w' (spent id x y z e is) i = is
stays-typed w slot a r w' (typed id x y z q e is) i = absurd (subst IsRefusal e i)
stays-typed w slot a r w' (no_memory e is) i = is

stays-server_tick : (w : World) (now : ℕ) (r : Reply) (w' : World) → ServerTickStep w now r w' → IsRefusal r → w' ≡ w
stays-server_tick w now r w' (spent x e is) i = is
stays-server_tick w now r w' (ticked x e is) i = absurd (subst IsRefusal e i)
stays-server_tick w now r w' (no_memory e is) i = is

stays-client_tick : (w : World) (slot now : ℕ) (r : Reply) (w' : World) → ClientTickStep w slot now r w' → IsRefusal r → w' ≡ w
stays-client_tick w slot now r w' (empty_slot x e is) i = is
stays-client_tick w slot now r w' (quiet id x y e is) i = absurd (subst IsRefusal e i)
stays-client_tick w slot now r w' (spent id x y z e is) i = is
stays-client_tick w slot now r w' (sent id x y z e is) i = absurd (subst IsRefusal e i)
stays-client_tick w slot now r w' (no_memory e is) i = is

stays-to_server : (w : World) (k : ℕ) (from : Address) (now : ℕ) (r : Reply) (w' : World) → ToServerStep w k from now r w' → IsRefusal r
    → w' ≡ w
stays-to_server w k from now r w' (not_sent x e is) i = is
stays-to_server w k from now r w' (refused d f x y e is) i = is
stays-to_server w k from now r w' (fragment d g x y e is) i = absurd (subst IsRefusal e i)
stays-to_server w k from now r w' (unread d g text why x y z e is) i = is
stays-to_server w k from now r w' (all_taken d g text u x y z a e is) i = absurd (subst IsRefusal e i)
stays-to_server w k from now r w' (no_room d g text u x y z a e is) i = absurd (subst IsRefusal e i)
stays-to_server w k from now r w' (no_memory_at_act d g text u n x y z a e is) i = absurd (subst IsRefusal e i)
stays-to_server w k from now r w' (no_memory e is) i = is

stays-to_client : (w : World) (slot k now : ℕ) (r : Reply) (w' : World) → ToClientStep w slot k now r w' → IsRefusal r → w' ≡ w
stays-to_client w slot k now r w' (empty_slot x e is) i = is
stays-to_client w slot k now r w' (not_sent x e is) i = is
stays-to_client w slot k now r w' (refused id d f x y z e is) i = is
stays-to_client w slot k now r w' (fragment id d how g x y z e is) i = absurd (subst IsRefusal e i)
stays-to_client w slot k now r w' (unread id d g text why x y z a e is) i = is
stays-to_client w slot k now r w' (bad_change id d g text v base x y z a b c d' e is) i = is
stays-to_client w slot k now r w' (whole id d g text v q x y z a b e is) i = absurd (subst IsRefusal e i)
stays-to_client w slot k now r w' (no_memory e is) i = is

stays-start : (w : World) (slot id : ℕ) (version : Version) (watches : Bool) (r : Reply) (w' : World)
    → StartStep w slot id version watches r w' → IsRefusal r → w' ≡ w
stays-start w slot id version watches r w' (used x e is) i = is
stays-start w slot id version watches r w' (unfit x e is) i = is
stays-start w slot id version watches r w' (started x y e is) i = absurd (subst IsRefusal e i)
stays-start w slot id version watches r w' (no_memory e is) i = is

stays : (w : World) (e : Event) (r : Reply) (w' : World) → wstep w e r w' → IsRefusal r → w' ≡ w
stays w (PaneBytes p bytes) r w' s i = stays-pane_bytes w p bytes r w' s i
stays w (Typed slot a) r w' s i = stays-typed w slot a r w' s i
stays w (ServerTick now) r w' s i = stays-server_tick w now r w' s i
stays w (ClientTick slot now) r w' s i = stays-client_tick w slot now r w' s i
stays w (ToServer k from now) r w' s i = stays-to_server w k from now r w' s i
stays w (ToClient slot k now) r w' s i = stays-to_client w slot k now r w' s i
stays w (Start slot id version watches) r w' s i = stays-start w slot id version watches r w' s i
stays w (Drain p n) r w' s i = stays-drain w p n r w' s i

pub stands_still : (v v' : WorldView) (session : ℕ) (size : SessionSize) (es : List Event) (rs : List Reply) (e : Event) (r : Reply)
    → (s : StandsFor v session size es rs) → Steps s.world e r v' → IsRefusal r → StandsFor v' session size es rs
stands_still v v' session size es rs e r s t i =
    record {
      world = s.world;
      reached = s.reached;
      stands = subst (λ (w : World). Stands v' w) (stays s.world e r t.left t.step i) t.stands;
    }
