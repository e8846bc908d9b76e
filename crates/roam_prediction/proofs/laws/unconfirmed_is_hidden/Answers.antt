use Rattle.roam_prediction.proofs.Epochs.{unconfirmed_is_hidden}
use Rattle.roam_prediction.proofs.laws.unconfirmed_is_hidden.Goals as goal

pub returns : goal.returns
returns c = record { hidden = unconfirmed_is_hidden }
