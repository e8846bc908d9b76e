use Rattle.roam_prediction.proofs.Epochs.{epochs_end}
use Rattle.roam_prediction.proofs.laws.epochs_end.Goals as goal

pub returns : goal.returns
returns c = record { ends = epochs_end }
