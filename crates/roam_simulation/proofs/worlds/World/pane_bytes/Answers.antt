use Rattle.std.proofs.Common.{subst, sym}
use Rattle.std.proofs.lemmas.Result.{err_from_is_err_and}
use Rattle.roam_simulation.specs.Worlds.{WorldView, Stands}
use Rattle.roam_simulation.proofs.Inputs.{steps_fed}
use Rattle.roam_simulation.proofs.worlds.World.pane_bytes.Goals as goal

pub returns-in_err-pane_bytes : goal.returns-in_err-pane_bytes
returns-in_err-pane_bytes c =
    record {
      steps =
          λ w st.
          let p = err_from_is_err_and c.from_residual.result c.from_residual.ensures.1 in
          let s = subst (λ (v : WorldView). Stands v w) (sym c.self.view_is) st in
          rw (p.1, p.2) (steps_fed _ w c.args.pane c.args.bytes.now _ c.pane_bytes.new.self s
          (c.in_err-pane_bytes.ensures.fed w.server s.server));
    }

pub returns : goal.returns
returns c =
    record {
      steps =
          λ w st.
          let s = subst (λ (v : WorldView). Stands v w) (sym c.self.view_is) st in
          steps_fed _ w c.args.pane c.args.bytes.now _ c.pane_bytes.new.self s (c.in_ok-pane_bytes.ensures.fed w.server s.server);
    }
