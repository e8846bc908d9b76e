use Rattle.std.proofs.Common.{◌≡◌, List, length, map, sym, ap, ◌∙◌, subst, rules, arith}
use Rattle.std.specs.Prelude.{All}
use Rattle.roam_prediction.specs.Predictions.{IsPrediction}
use Rattle.roam_prediction.specs.Underlined.{underlined_prediction}
use Rattle.roam_prediction.specs.declared.predictions.Prediction.{Prediction}
use Rattle.roam_prediction.proofs.Kept.{underlined_kept, underlined_length}
use Rattle.roam_prediction.proofs.predictions.Predictions.underlined.Goals as goal

pub invariant_of-result : goal.invariant_of-result
invariant_of-result c =
    let old : List Prediction = c.self.inside.list.items in
    let copied : c.extend_from_slice.new.self.items ≡ old = search rules in
    let new : c.underline_all.new.list.items ≡ map underlined_prediction old =
    c.underline_all.ensures.underlined ∙ ap (map underlined_prediction) copied in
    record {
      few = omega (arith, ap length new, underlined_length old, c.self.invariant.few);
      room = search (rules, arith);
      predictions = subst (λ (xs : List Prediction). All IsPrediction xs) (sym new) (underlined_kept old c.self.invariant.predictions);
    }
