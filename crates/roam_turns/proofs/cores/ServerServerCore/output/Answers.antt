use Rattle.std.proofs.Common.{refl}
use Rattle.roam_turns.proofs.Taking.{copies}
use Rattle.roam_turns.proofs.cores.ServerServerCore.output.Goals as goal

pub returns-in-Ok-clause-step : goal.returns-in-Ok-clause-step
returns-in-Ok-clause-step c =
    (refl, λ s st. copies _ _ _ _ _ _ (c.in-Ok.ensures.bytes s st) (c.in_ok-waits.ensures.len s st) c.min.ensures)
