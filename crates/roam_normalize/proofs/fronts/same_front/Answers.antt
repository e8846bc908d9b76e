use Rattle.roam_normalize.proofs.Going.{goes-same}
use Rattle.roam_normalize.proofs.fronts.same_front.Goals as goal

pub returns-in-Same-clause-same : goal.returns-in-Same-clause-same
returns-in-Same-clause-same c = goes-same c.args.bytes.now c.in-Same.count c.in-Same.ensures.found.0
