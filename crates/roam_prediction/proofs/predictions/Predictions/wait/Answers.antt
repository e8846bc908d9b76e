use Rattle.std.proofs.Common.{List, length, sym, ap, subst, arith}
use Rattle.std.specs.Prelude.{All}
use Rattle.roam_prediction.specs.Predictions.{IsPrediction}
use Rattle.roam_prediction.specs.declared.predictions.Prediction.{Prediction}
use Rattle.roam_prediction.proofs.Kept.{waiting_kept, waiting_length}
use Rattle.roam_prediction.proofs.predictions.Predictions.wait.Goals as goal

pub invariant_of-self : goal.invariant_of-self
invariant_of-self c =
    let old : List Prediction = c.self.inside.list.items in
    let new = c.wait_all.ensures.since in
    record {
      few = omega (arith, ap length new, waiting_length c.args.now old, c.self.invariant.few);
      room = omega (arith, c.wait_all.ensures.capacity, c.self.invariant.room);
      predictions = subst (λ (xs : List Prediction). All IsPrediction xs) (sym new)
          (waiting_kept c.args.now old c.self.invariant.predictions);
    }
