use Rattle.roam_simulation.proofs.Refusing.{stands_still}
use Rattle.roam_simulation.proofs.Stepping.{no_gap, reached, stands_after}
use Rattle.roam_simulation.proofs.worlds.World.step.Goals as goal

pub returns-in-Ok : goal.returns-in-Ok
returns-in-Ok c =
    record {
      stands =
          λ session size es rs st.
          stands_after _ _ session size es rs _ _ c.facts.ensures.event st
          (c.in-Ok.ensures.steps st.world (reached _ session size es rs st) st.stands);
      steps = c.in-Ok.ensures.steps;
      refused =
          λ session size es rs st.
          stands_still _ _ session size es rs _ _ st
          (c.in-Ok.ensures.steps st.world (reached _ session size es rs st) st.stands);
      no_gap =
          λ session size es rs st.
          no_gap st.world _ _ _ (c.links_stay_true.ensures.gap session size es rs st.world st.reached)
          (c.in-Ok.ensures.steps st.world (reached _ session size es rs st) st.stands);
    }

pub returns-in-Err : goal.returns-in-Err
returns-in-Err c =
    record {
      stands =
          λ session size es rs st.
          stands_after _ _ session size es rs _ _ c.facts.ensures.event st
          (c.in-Err.ensures.steps st.world (reached _ session size es rs st) st.stands);
      steps = c.in-Err.ensures.steps;
      refused =
          λ session size es rs st.
          stands_still _ _ session size es rs _ _ st
          (c.in-Err.ensures.steps st.world (reached _ session size es rs st) st.stands);
      no_gap =
          λ session size es rs st.
          no_gap st.world _ _ _ (c.links_stay_true.ensures.gap session size es rs st.world st.reached)
          (c.in-Err.ensures.steps st.world (reached _ session size es rs st) st.stands);
    }
