use Rattle.std.proofs.Common.{sym, ap, ◌∙◌, set}
use Rattle.std.proofs.lemmas.List.Edits.{map_over_more}
use Rattle.roam_prediction.specs.Verdicts.{with_told}
use Rattle.roam_prediction.proofs.seen.tell_each.Goals as goal

pub loop-prediction-preserved : goal.loop-prediction-preserved
loop-prediction-preserved c =
    let f = with_told c.args.moment in
    let item = c.prediction-item in
    let i = c.loop-prediction.prediction-index in
    ap (set c.loop-prediction.predictions i) (c.with_told.ensures.told ∙ ap f (sym item.is))
    ∙ map_over_more f c.args.predictions.now c.loop-prediction.predictions i item.result c.loop-prediction-test.true c.loop-prediction.invariant item.is
