-- No prediction is left whose time is over.
use Rattle.std.proofs.Common.{◌≡◌, ℕ, Bool, true, false, cond, ◌&&◌, List, [], ◌∷◌, Some, map, refl, ap, sym, ◌∙◌}
use Rattle.std.specs.Prelude.{All, is_some, ◌||◌}
use Rattle.std.proofs.lemmas.List.Elements.{All-cons, All-head, All-nil, All-tail}
use Rattle.roam_prediction.specs.Predictions.{PredictionsOf, dropped, is_none, none}
use Rattle.roam_prediction.specs.Laws.{IsInTime, TimeEnds, UnechoedEnds}
use Rattle.roam_prediction.specs.Verdicts.{counts, expired, is_any_over, is_ended, is_over, left_by, with_told}
use Rattle.roam_prediction.specs.declared.predictions.Prediction.{Prediction}
use Rattle.roam_prediction.specs.declared.predictions.Moment.{Moment}

-- ---- of each whose acknowledgement counts it is noted

abbrev IsTold : Moment → Prediction → Type 0
IsTold moment prediction = counts moment prediction ≡ true → is_some prediction.told ≡ true

told_by : (b d : Bool) (moment : Moment) (prediction : Prediction) → is_some prediction.told ≡ b → counts moment prediction ≡ d
    → IsTold moment (cond b prediction (cond d (record prediction { told = Some moment.at }) prediction))
told_by true d moment prediction is e = λ h. is
told_by false true moment prediction is e = λ h. refl
told_by false false moment prediction is e = λ h. absurd cc

all_told : (moment : Moment) (predictions : List Prediction) → All (IsTold moment) (map (with_told moment) predictions)
all_told moment [] = All-nil (IsTold moment)
all_told moment (prediction ∷ predictions) =
    All-cons (IsTold moment) (with_told moment prediction) (map (with_told moment) predictions)
    (told_by (is_some prediction.told) (counts moment prediction) moment prediction refl refl) (all_told moment predictions)

-- ---- if none is over, all are in time

in_time : (moment : Moment) (prediction : Prediction) (predictions : List Prediction) (b : Bool) → is_over moment.at prediction ≡ b
    → (b || is_any_over moment.at predictions) ≡ false → IsTold moment prediction → All (IsInTime moment) predictions
    → All (IsInTime moment) (prediction ∷ predictions)
in_time moment prediction predictions true over e told more = absurd cc
in_time moment prediction predictions false over e told more =
    All-cons (IsInTime moment) prediction predictions (record { over = over; told = told }) more

later_over : (a b : Bool) → (a || b) ≡ false → b ≡ false
later_over true b e = absurd cc
later_over false b e = e

none_over : (moment : Moment) (predictions : List Prediction) → is_any_over moment.at predictions ≡ false → All (IsTold moment) predictions
    → All (IsInTime moment) predictions
none_over moment [] e told = All-nil (IsInTime moment)
none_over moment (prediction ∷ predictions) e told =
    in_time moment prediction predictions (is_over moment.at prediction) refl e (All-head (IsTold moment) prediction predictions told)
    (none_over moment predictions (later_over (is_over moment.at prediction) (is_any_over moment.at predictions) e)
    (All-tail (IsTold moment) prediction predictions told))

expired_in_time : (moment : Moment) (predictions : PredictionsOf) (over : Bool) → is_any_over moment.at predictions.list ≡ over
    → All (IsTold moment) predictions.list → All (IsInTime moment) (cond over (dropped predictions) predictions).list
expired_in_time moment predictions true e told = All-nil (IsInTime moment)
expired_in_time moment predictions false e told = none_over moment predictions.list e told

begun_in_time : (moment : Moment) (predictions : PredictionsOf) (b : Bool) → All (IsInTime moment) predictions.list
    → All (IsInTime moment) (cond b none predictions).list
begun_in_time moment predictions true h = All-nil (IsInTime moment)
begun_in_time moment predictions false h = h

pub time_ends : TimeEnds
time_ends moment s predictions =
    let noted = left_by moment s predictions in
    let left = expired moment.at noted in
    begun_in_time moment left (is_none left.list && is_ended left.ends_with moment.acknowledged)
    (expired_in_time moment noted (is_any_over moment.at noted.list) refl (all_told moment _))

-- ---- the time of one is over

over_drops : (predictions : PredictionsOf) (over : Bool) → over ≡ true → cond over (dropped predictions) predictions ≡ dropped predictions
over_drops predictions true e = refl
over_drops predictions false e = absurd cc

begun_empty : (predictions : PredictionsOf) (b : Bool) → predictions.list ≡ [] → predictions.trusted ≡ false
    → ((cond b none predictions).list ≡ []) × ((cond b none predictions).trusted ≡ false)
begun_empty predictions true e h = (refl, refl)
begun_empty predictions false e h = (e, h)

pub unechoed_ends : UnechoedEnds
unechoed_ends moment s predictions over =
    let noted = left_by moment s predictions in
    let left = expired moment.at noted in
    let gone : left ≡ dropped noted = over_drops noted (is_any_over moment.at noted.list) over in
    begun_empty left (is_none left.list && is_ended left.ends_with moment.acknowledged) (ap (λ (g : PredictionsOf). g.list) gone)
    (ap (λ (g : PredictionsOf). g.trusted) gone)
