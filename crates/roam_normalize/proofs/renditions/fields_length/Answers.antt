use Rattle.std.proofs.Common.{drop, arith}
use Rattle.roam_normalize.proofs.Fields.{no-fields}
use Rattle.roam_normalize.proofs.renditions.fields_length.Goals as goal

pub returns-else-left-gt0-clause-length : goal.returns-else-left-gt0-clause-length
returns-else-left-gt0-clause-length c =
    let none = no-fields c.args.separator c.loop-at.left (drop c.loop-at.at c.args.bytes.now) c.if-left-gt0.false in
    let all = c.loop-at.invariant.1 in
    omega (arith, none, all)
