use Rattle.roam_prediction.proofs.Times.{unechoed_ends}
use Rattle.roam_prediction.proofs.laws.unechoed_ends.Goals as goal

pub returns : goal.returns
returns c = record { ends = unechoed_ends }
