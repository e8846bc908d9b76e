use Rattle.std.proofs.Common.{rules}
use Rattle.roam_screens.proofs.shots.Shot.copy.Goals as goal

pub invariant_of-result : goal.invariant_of-result
invariant_of-result c = search rules

pub returns-clause-same : goal.returns-clause-same
returns-clause-same c = search rules
