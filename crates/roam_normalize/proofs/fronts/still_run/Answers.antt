use Rattle.roam_normalize.proofs.Going.{still-far}
use Rattle.roam_normalize.proofs.fronts.still_run.Goals as goal

pub returns-clause-still : goal.returns-clause-still
returns-clause-still c = still-far c.args.bytes.now c.near_run-near.result c.far_run.result c.near_run-near.ensures.still c.far_run.ensures.still
