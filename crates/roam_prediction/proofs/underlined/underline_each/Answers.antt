use Rattle.std.proofs.Common.{sym, ap, ◌∙◌, set}
use Rattle.std.proofs.lemmas.List.Edits.{map_over_more}
use Rattle.roam_prediction.specs.Underlined.{underlined_prediction}
use Rattle.roam_prediction.proofs.underlined.underline_each.Goals as goal

pub loop-prediction-preserved : goal.loop-prediction-preserved
loop-prediction-preserved c =
    let item = c.prediction-item in
    let i = c.loop-prediction.prediction-index in
    ap (set c.loop-prediction.predictions i) (c.underlined_prediction.ensures.guess ∙ ap underlined_prediction (sym item.is))
    ∙ map_over_more underlined_prediction c.args.predictions.now c.loop-prediction.predictions i item.result c.loop-prediction-test.true c.loop-prediction.invariant item.is
