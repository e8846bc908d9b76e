use Rattle.roam_prediction.proofs.Changes.{overlay_changes_predicted}
use Rattle.roam_prediction.proofs.laws.overlay_changes_predicted.Goals as goal

pub returns : goal.returns
returns c = record { changes = overlay_changes_predicted }
