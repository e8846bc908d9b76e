use Rattle.std.proofs.Common.{◌≡◌, ◌++◌, drop, map, take}
use Rattle.roam_prediction.specs.Verdicts.{with_since}
use Rattle.roam_prediction.proofs.seen.wait_each.Given as goal

abbrev pub invariant-loop-prediction : goal.invariant-loop-prediction
invariant-loop-prediction l =
    l.predictions ≡ map (with_since l.now) (take l.prediction-index l.initial.predictions) ++ drop l.prediction-index l.initial.predictions
