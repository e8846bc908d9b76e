-- A world of the code before any event, and the screens of instances.
use Rattle.std.proofs.Common.{◌≡◌, ℕ, ◌<◌, ◌≤◌, ◌^◌, List, [], length, Option, Some, None, true, refl, sym, subst}
use Rattle.roam_layout.specs.Layouts.{IsSessionSize}
use Rattle.roam_session.specs.Sessions.{SessionSize}
use Rattle.roam_model.specs.Lists.{IsIn}
use Rattle.roam_model.specs.Clients.{nobody}
use Rattle.roam_model.specs.Servers.{new_server}
use Rattle.roam_model.specs.Numbers.{screen}
use Rattle.roam_model.specs.Laws.{ShowsTrueScreens, TakesActsInOrder}
use Rattle.roam_model.specs.Worlds.{World, new_world}
use Rattle.roam_hub.specs.Clients.{ClientView}
use Rattle.roam_hub.specs.Servers.{ServerView, Stands as ServerStands}
use Rattle.roam_simulation.specs.Worlds.{WorldView, start_in, Fills, Stands, StandsFor, ShowsSession}

no_made : (id : ℕ) → nobody.made ≡ true → IsIn id []
unfolding nobody
no_made id e = absurd (cc)

pub stands_for_new : (session : ℕ) (size : SessionSize) (server : ServerView) (slots : List (Option ClientView)) (used : List ℕ)
    (sent : List (List ℕ)) → session < 2 ^ 64 → IsSessionSize size.rows size.cols → ServerStands server (new_server session size)
    → ((slot : ℕ) → start_in slots slot ≡ None) → used ≡ [] → sent ≡ []
    → StandsFor (record { session = session; server = server; slots = slots; used = used; sent = sent }) session size [] []
unfolding new_world new_server
stands_for_new session size server slots used sent low limits stands none no_used no_sent =
    record {
      world = new_world session size;
      reached = record { id = low; limits = limits; events = tt; run = refl };
      stands =
          record {
            session = refl;
            server = stands;
            starts =
                record {
                  filled = (λ slot. subst (λ (o : Option ClientView). Fills session (λ id. nobody) o None) (sym (none slot)) tt);
                  made = (λ slot id e. absurd (cc));
                  once = (λ slot other id e f. absurd (cc));
                  all = (λ id made. subst (IsIn id) (sym no_used) (no_made id made));
                  just = (λ id there. absurd (subst (IsIn id) no_used there));
                };
            sent = no_sent;
          };
    }

-- the screen of an instance in a slot
pub shows_session : (v : WorldView) (w : World) → Stands v w → ShowsTrueScreens w → TakesActsInOrder w → ShowsSession v w
shows_session v w st screens acts =
    record {
      made = (λ slot c at. made c (w.slots slot) (subst (λ (o : Option ClientView). Fills w.server.session w.clients o (w.slots slot)) at
          (st.starts.filled slot)));
      same = (λ slot c at. same c (w.slots slot) (subst (λ (o : Option ClientView). Fills w.server.session w.clients o (w.slots slot)) at
          (st.starts.filled slot)));
      acts = acts;
    }
  where
    made : (c : ClientView) (o : Option ℕ) → Fills w.server.session w.clients (Some c) o
        → c.kept.receiver.newest.number ≤ length w.server.cuts
    made c None f = absurd f
    made c (Some id) f =
        subst (λ (x : ClientView). x.kept.receiver.newest.number ≤ length w.server.cuts) (sym f) (screens.made id)

    same : (c : ClientView) (o : Option ℕ) → Fills w.server.session w.clients (Some c) o
        → c.kept.receiver.newest.state ≡ screen c.kept.version w.server.size w.server.log w.server.cuts c.kept.receiver.newest.number
    same c None f = absurd f
    same c (Some id) f =
        subst (λ (x : ClientView). x.kept.receiver.newest.state
        ≡ screen x.kept.version w.server.size w.server.log w.server.cuts x.kept.receiver.newest.number) (sym f) (screens.same id)
