use Rattle.std.proofs.Common.{◌≡◌, ◌++◌, drop, map, take}
use Rattle.roam_prediction.specs.Underlined.{underlined_prediction}
use Rattle.roam_prediction.proofs.underlined.underline_each.Given as goal

abbrev pub invariant-loop-prediction : goal.invariant-loop-prediction
invariant-loop-prediction l =
    l.predictions ≡ map (underlined_prediction) (take l.prediction-index l.initial.predictions) ++ drop l.prediction-index l.initial.predictions
