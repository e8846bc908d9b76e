use Rattle.std.proofs.Common.{Option, sym, subst}
use Rattle.std.specs.Prelude.{IfSome}
use Rattle.roam_prediction.specs.Predictions.{IsPrediction}
use Rattle.roam_prediction.specs.declared.predictions.Prediction.{Prediction}
use Rattle.roam_prediction.proofs.Kept.{written_kept}
use Rattle.roam_prediction.proofs.typed.prediction_of.Goals as goal

pub returns-in-Write-clause-kept : goal.returns-in-Write-clause-kept
returns-in-Write-clause-kept c =
    subst (λ (o : Option Prediction). IfSome o IsPrediction) (sym c.written_prediction.ensures.guess) (written_kept c.args.number c.in-Write.c
    c.args.row.now c.args.predictions.now c.args.col)
