use Rattle.std.proofs.Common.{length, arith}
use Rattle.roam_pane_metadata.proofs.Runs.{still-take}
use Rattle.roam_pane_metadata.proofs.silence.far_run.Goals as goal

pub returns-in-Some-clause-still : goal.returns-in-Some-clause-still
returns-in-Some-clause-still c =
    let high = c.in-Some.ensures.0.high in
    still-take c.in-Some.at c.args.piece.now (omega (arith, high)) (λ k less. c.in-Some.ensures.0.before k (omega arith) less)

pub returns-in-None-clause-still : goal.returns-in-None-clause-still
returns-in-None-clause-still c =
    still-take (length c.args.piece.now) c.args.piece.now (omega arith) (λ k less. c.in-None.ensures k (omega arith) less)
