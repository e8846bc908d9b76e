-- One more event after those that a world models.
use Rattle.std.proofs.Common.{◌≡◌, ℕ, ◌+◌, ◌<◌, List, [], ◌∷◌, ◌++◌, length, take, get_or, refl, sym, ap, ◌∙◌, subst}
use Rattle.std.specs.Prelude.{map}
use Rattle.std.proofs.lemmas.List.{map-append, take_more}
use Rattle.roam_session.specs.Sessions.{SessionSize}
use Rattle.roam_model.specs.Worlds.{World, Event, PaneBytes, Typed, ServerTick, ClientTick, ToServer, ToClient, Start, Drain, Reply, new_world}
use Rattle.roam_model.specs.Steps.{wstep, Run}
use Rattle.roam_model.specs.Laws.{IsEvent, AreEvents, LeavesNoGap}
use Rattle.roam_simulation.specs.declared.events.Event.{Event as EventIn}
use Rattle.roam_simulation.specs.Events.{event_of}
use Rattle.roam_simulation.specs.Worlds.{WorldView, IsNoGap, IsReached, StandsFor, Steps}

events_more : (es : List Event) (e : Event) → AreEvents es → IsEvent e → AreEvents (es ++ e ∷ [])
events_more [] e are is = (is, tt)
events_more (x ∷ es) e are is = (are.0, events_more es e are.1 is)

run_more : (w mid w' : World) (es : List Event) (rs : List Reply) (e : Event) (r : Reply) → Run w es rs mid → wstep mid e r w'
    → Run w (es ++ e ∷ []) (rs ++ r ∷ []) w'
run_more w mid w' [] [] e r run step = (w', subst (λ (x : World). wstep x e r w') run step, refl)
run_more w mid w' (x ∷ es) (y ∷ rs) e r run step = (run.0, run.1, run_more run.0 mid w' es rs e r run.2 step)
run_more w mid w' [] (y ∷ rs) e r run step = absurd run
run_more w mid w' (x ∷ es) [] e r run step = absurd run

pub reached : (v : WorldView) (session : ℕ) (size : SessionSize) (es : List Event) (rs : List Reply) → (s : StandsFor v session size es rs)
    → IsReached s.world
reached v session size es rs s = record { session = session; size = size; events = es; replies = rs; reaches = s.reached }

pub stands_after : (v v' : WorldView) (session : ℕ) (size : SessionSize) (es : List Event) (rs : List Reply) (e : Event) (r : Reply)
    → IsEvent e → (s : StandsFor v session size es rs) → Steps s.world e r v' → StandsFor v' session size (es ++ e ∷ []) (rs ++ r ∷ [])
stands_after v v' session size es rs e r is s t =
    record {
      world = t.left;
      reached =
          record {
            id = s.reached.id;
            limits = s.reached.limits;
            events = events_more es e s.reached.events is;
            run = run_more (new_world session size) s.world t.left es rs e r s.reached.run t.step;
          };
      stands = t.stands;
    }

-- so many of the events have happened, with some replies
abbrev pub HasRun : WorldView → ℕ → SessionSize → List EventIn → Type 0
HasRun v session size events = (rs : List Reply) × StandsFor v session size (map event_of events) rs

pub run_one : (v v' : WorldView) (session : ℕ) (size : SessionSize) (events : List EventIn) (i : ℕ) (e : EventIn) (r : Reply)
    → i < length events → e ≡ get_or events i e → HasRun v session size (take i events)
    → ((es : List Event) (rs : List Reply) → StandsFor v session size es rs
    → StandsFor v' session size (es ++ event_of e ∷ []) (rs ++ r ∷ []))
    → HasRun v' session size (take (i + 1) events)
run_one v v' session size events i e r lt is run steps = (
  run.0 ++ r ∷ [],
  subst (λ (es : List Event). StandsFor v' session size es (run.0 ++ r ∷ [])) (sym more)
      (steps (map event_of (take i events)) run.0 run.1),
)
  where
    more : map event_of (take (i + 1) events) ≡ map event_of (take i events) ++ event_of e ∷ []
    more =
        ap (map event_of) (take_more events i e lt ∙ ap (λ (x : EventIn). take i events ++ x ∷ []) (sym is))
        ∙ map-append event_of (take i events) (e ∷ [])

pub no_gap : (w : World) (e : Event) (r : Reply) (v : WorldView) → LeavesNoGap w → Steps w e r v → IsNoGap e r
no_gap w (PaneBytes pane bytes) r v law s = tt
no_gap w (Typed slot act) r v law s = tt
no_gap w (ServerTick now) r v law s = tt
no_gap w (ClientTick slot now) r v law s = tt
no_gap w (ToServer k from now) r v law s = tt
no_gap w (ToClient slot k now) r v law s = law slot k now r s.left s.step
no_gap w (Start slot id version watches) r v law s = tt
no_gap w (Drain pane n) r v law s = tt
