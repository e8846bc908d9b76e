use Rattle.std.proofs.Common.{◌+◌}
use Rattle.roam_normalize.proofs.Going.{goes-still, goes-front, run-within}
use Rattle.roam_normalize.proofs.fronts.same_run.Goals as goal

pub returns-then-same-eq0-clause-same : goal.returns-then-same-eq0-clause-same
returns-then-same-eq0-clause-same c = goes-still c.args.bytes.now c.loop-at.at c.still_run-at.result c.loop-at.invariant.1 c.still_run-at.ensures.still

pub loop-at-preserved : goal.loop-at-preserved
loop-at-preserved c =
    let bytes = c.args.bytes.now in
    let at = c.loop-at.at in
    let still = c.still_run-at.result in
    let same = c.same_front-same.result in (
      run-within bytes (at + still) same (run-within bytes at still c.loop-at.invariant.0 c.still_run-at.ensures.within) c.same_front-same.ensures.within,
      goes-front bytes (at + still) same (goes-still bytes at still c.loop-at.invariant.1 c.still_run-at.ensures.still) c.same_front-same.ensures.same,
    )
