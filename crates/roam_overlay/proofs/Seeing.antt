-- Predictions are judged by a screen that follows the one before, or by one that doesn't.
use Rattle.std.proofs.Common.{◌≡◌, ◌⊎◌, inl, inr, refl, sym, subst}
use Rattle.roam_prediction.specs.Predictions.{PredictionsOf, dropped}
use Rattle.roam_prediction.specs.Laws.{Step, Seen, Ended, after}
use Rattle.roam_prediction.specs.Verdicts.{Follows, begun, judged}
use Rattle.roam_prediction.specs.declared.predictions.Moment.{Moment}
use Rattle.roam_screens.specs.Screenshot.{Screenshot}
use Rattle.roam_overlay.specs.Overlays.{Sees}
use Rattle.roam_overlay.specs.Overlays.Sees.{seen, ended}

pub sees_by : (before judged_by s : Screenshot) (moment : Moment) (old new : PredictionsOf) → before ≡ judged_by
    → (Follows before s old.list ⊎ (Follows before s old.list → ⊥))
    → (Follows before s old.list → new ≡ begun moment.acknowledged (judged moment s old))
    → ((Follows before s old.list → ⊥) → new ≡ begun moment.acknowledged (dropped old))
    → (step : Step) × Sees judged_by s moment old step × (new ≡ after old step)
sees_by before judged_by s moment old new same (inl h) goes_on ends =
    (Seen moment s, seen (subst (λ b. Follows b s old.list) same h) refl, goes_on h)
sees_by before judged_by s moment old new same (inr h) goes_on ends =
    (Ended moment.acknowledged, ended (λ k. h (subst (λ b. Follows b s old.list) (sym same) k)) refl, ends h)
