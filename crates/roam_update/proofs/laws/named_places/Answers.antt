use Rattle.roam_update.proofs.Naming.{named_between, apart_change}
use Rattle.roam_update.proofs.laws.named_places.Goals as goal

pub returns-clause-named : goal.returns-clause-named
returns-clause-named c = named_between

pub returns-clause-apart : goal.returns-clause-apart
returns-clause-apart c = apart_change
