use Rattle.roam_prediction.proofs.Times.{time_ends}
use Rattle.roam_prediction.proofs.laws.time_ends.Goals as goal

pub returns : goal.returns
returns c = record { ends = time_ends }
