use Rattle.std.proofs.Common.{length, arith}
use Rattle.roam_normalize.proofs.Going.{still-take}
use Rattle.roam_normalize.proofs.fronts.far_run.Goals as goal

pub returns-in-Some-clause-still : goal.returns-in-Some-clause-still
returns-in-Some-clause-still c =
    let high = c.in-Some.ensures.0.high in
    still-take c.in-Some.at c.args.bytes.now (omega (arith, high)) (λ k less. c.in-Some.ensures.0.before k (omega arith) less)

pub returns-in-None-clause-still : goal.returns-in-None-clause-still
returns-in-None-clause-still c =
    still-take (length c.args.bytes.now) c.args.bytes.now (omega arith) (λ k less. c.in-None.ensures k (omega arith) less)
