use Rattle.roam_prediction.proofs.Epochs.{ended_shows_no_more}
use Rattle.roam_prediction.proofs.laws.ended_shows_no_more.Goals as goal

pub returns : goal.returns
returns c = record { ends = ended_shows_no_more }
