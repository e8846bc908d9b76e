use Rattle.roam_pane_metadata.proofs.Runs.{still-far}
use Rattle.roam_pane_metadata.proofs.silence.still_run.Goals as goal

pub returns-clause-still : goal.returns-clause-still
returns-clause-still c = still-far c.args.piece.now c.near_run-near.result c.far_run.result c.near_run-near.ensures.still c.far_run.ensures.still
