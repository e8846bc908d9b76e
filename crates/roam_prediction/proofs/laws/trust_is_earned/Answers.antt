use Rattle.roam_prediction.proofs.Epochs.{trust_is_earned}
use Rattle.roam_prediction.proofs.laws.trust_is_earned.Goals as goal

pub returns : goal.returns
returns c = record { earned = trust_is_earned }
