use Rattle.roam_model.proofs.Runs.{holds-reached}
use Rattle.roam_model.proofs.Sendable.{counts-reached}
use Rattle.roam_turns.proofs.Readiness.{ready_in}
use Rattle.roam_turns.proofs.laws.histories_make_ready.Goals as goal

pub returns : goal.returns
returns c =
    record {
      ready =
          λ session size es rs w reaches. ready_in w (holds-reached session size es rs w reaches)
          (counts-reached session size es rs w reaches);
    }
