use Rattle.std.proofs.Common.{◌≡◌, drop}
use Rattle.roam_prediction.specs.Overlay.{with_predictions}
use Rattle.roam_prediction.proofs.over.row_with.Given as goal

abbrev pub invariant-loop-prediction : goal.invariant-loop-prediction
invariant-loop-prediction l = with_predictions l.row l.predictions ≡ with_predictions l.cells.items (drop l.prediction-index l.predictions)
