use Rattle.std.proofs.Common.{sym, ◌∙◌, arith}
use Rattle.roam_normalize.proofs.Scanning.{scan-on}
use Rattle.roam_normalize.proofs.fronts.body_run.Goals as goal

pub loop-at-preserved : goal.loop-at-preserved
loop-at-preserved c =
    let less = c.loop-at-test.true in
    let few = c.if-at-lt-MOST_BODY.true in (
      omega (arith, less),
      omega (arith, few),
      scan-on c.args.bytes.now c.loop-at.at less few (sym c.is_body.ensures.body ∙ c.if-is_body.true) c.loop-at.invariant.2,
    )
