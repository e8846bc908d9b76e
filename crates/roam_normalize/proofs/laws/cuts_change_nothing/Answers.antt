use Rattle.roam_normalize.proofs.Translating.{out-cut, held-cut}
use Rattle.roam_normalize.proofs.laws.cuts_change_nothing.Goals as goal

pub returns-clause-out : goal.returns-clause-out
returns-clause-out c = out-cut

pub returns-clause-held : goal.returns-clause-held
returns-clause-held c = held-cut
