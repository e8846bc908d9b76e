use Rattle.std.proofs.Common.{subst, sym}
use Rattle.roam_simulation.specs.Worlds.{WorldView, Stands}
use Rattle.roam_simulation.proofs.Inputs.{steps_drained, steps_too_many}
use Rattle.roam_simulation.proofs.worlds.World.drained.Goals as goal

pub returns-then-count-waiting : goal.returns-then-count-waiting
returns-then-count-waiting c =
    record {
      steps =
          λ w st.
          let s = subst (λ (v : WorldView). Stands v w) (sym c.self.view_is) st in
          steps_too_many _ w c.args.pane c.args.count c.in-Some.waiting st (c.in-Some.ensures.len w.server s.server)
          c.if-count-waiting.true;
    }

pub returns : goal.returns
returns c =
    record {
      steps =
          λ w st.
          let s = subst (λ (v : WorldView). Stands v w) (sym c.self.view_is) st in
          steps_drained _ w c.args.pane c.args.count _ c.drain.new.self s (c.in_ok-drain.ensures.drained w.server s.server);
    }
