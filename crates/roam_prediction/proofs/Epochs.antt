-- An epoch is hidden until a screen confirms a prediction of it, and ends with an act that isn't predicted.
use Rattle.std.proofs.Common.{◌≡◌, ℕ, zero, suc, ◌+◌, Bool, true, false, cond, ◌&&◌, List, [], ◌∷◌, length, take, drop, map, Option, Some, None, ◌⊎◌, inl, inr, refl, sym, ap, ◌∙◌}
use Rattle.std.specs.List.{fold}
use Rattle.std.specs.Prelude.{is_some, nat_lt, not, ◌||◌}
use Rattle.std.proofs.lemmas.Bool.{false≢true}
use Rattle.std.proofs.lemmas.List.{drop-drop, drop-map}
use Rattle.roam_cells.specs.Glyph.{Glyph}
use Rattle.roam_screens.specs.Screenshot.{Screenshot}
use Rattle.roam_prediction.specs.Predictions.{PredictionsOf, dropped, is_none, last_act, none}
use Rattle.roam_prediction.specs.Laws.{EndedShowsNoMore, EpochsEnd, NothingShows, NoneConfirms, NoneEarns, ShowsNoMore, Step, Typed, Passed, Seen, Ended, TrustIsEarned, UnconfirmedIsHidden, after, confirms, seen_by, timeless}
use Rattle.roam_prediction.specs.Laws.ShowsNoMore.{ones_left, untrusted}
use Rattle.roam_prediction.specs.Overlay.{cursor_line, predicted}
use Rattle.roam_prediction.specs.Typing.{prediction_for, with_prediction_or_end}
use Rattle.roam_prediction.specs.Verdicts.{count_right, expired, has_credit, is_any_over, is_ended, left_by, counts, shows, waiting, with_since, with_told}
use Rattle.roam_prediction.specs.declared.predictions.Prediction.{Prediction}
use Rattle.roam_prediction.specs.declared.predictions.Moment.{Moment}

-- ---- nothing is shown

hidden_by : (predictions : PredictionsOf) (s : Screenshot) (b : Bool) → b ≡ false
    → cond (b && not (is_none predictions.list)) (predicted s predictions.list) s ≡ s
hidden_by predictions s true e = absurd (false≢true (sym e))
hidden_by predictions s false e = refl

none_by : (list : List Prediction) (s : Screenshot) (b : Bool) → list ≡ [] → cond (b && not (is_none list)) (predicted s list) s ≡ s
none_by [] s true e = refl
none_by [] s false e = refl
none_by (prediction ∷ list) s b e = absurd cc

pub nothing_shows : NothingShows
nothing_shows predictions s = record {
  hidden = λ e. hidden_by predictions s predictions.trusted e;
  none = λ e. none_by predictions.list s predictions.trusted e;
}

-- ---- trust

typed_trusted : (number : ℕ) (predictions : PredictionsOf) (o : Option Prediction) → (with_prediction_or_end number predictions o).trusted ≡ predictions.trusted
typed_trusted number predictions None = refl
typed_trusted number predictions (Some prediction) = refl

either : (a b : Bool) → (a || b) ≡ true → (a ≡ true) ⊎ (b ≡ true)
either true b e = inl refl
either false b e = inr e

or_left : (a b : Bool) → a ≡ true → (a || b) ≡ true
or_left true b e = refl
or_left false b e = absurd (false≢true e)

or_right : (a b : Bool) → b ≡ true → (a || b) ≡ true
or_right true b e = refl
or_right false b e = e

credit_of : (row : List Glyph) (n : ℕ) (predictions : List Prediction) → has_credit row (take n predictions) ≡ true → has_credit row predictions ≡ true
credit_of row zero [] e = absurd (false≢true e)
credit_of row (suc n) [] e = absurd (false≢true e)
credit_of row zero (prediction ∷ predictions) e = absurd (false≢true e)
credit_of row (suc n) (prediction ∷ predictions) e =
    elim (either (prediction.credit && shows row prediction) (has_credit row (take n predictions)) e) [
      | inl here ↦ or_left (prediction.credit && shows row prediction) (has_credit row predictions) here
      | inr there ↦ or_right (prediction.credit && shows row prediction) (has_credit row predictions) (credit_of row n predictions there)
    ]

begun_trusted : (predictions : PredictionsOf) (b : Bool) → (cond b none predictions).trusted ≡ true → predictions.trusted ≡ true
begun_trusted predictions true e = absurd (false≢true e)
begun_trusted predictions false e = e

expired_trusted : (predictions : PredictionsOf) (over : Bool) → (cond over (dropped predictions) predictions).trusted ≡ true → predictions.trusted ≡ true
expired_trusted predictions true e = absurd (false≢true e)
expired_trusted predictions false e = e

-- moments change no credit
since_credit : (b : Bool) (now : ℕ) (row : List Glyph) (prediction : Prediction)
    → ((cond b prediction (record prediction { since = Some now })).credit && shows row (cond b prediction (record prediction { since = Some now })))
    ≡ (prediction.credit && shows row prediction)
since_credit true now row prediction = refl
since_credit false now row prediction = refl

waiting_credit : (now : ℕ) (row : List Glyph) (predictions : List Prediction) → has_credit row (map (with_since now) predictions) ≡ has_credit row predictions
waiting_credit now row [] = refl
waiting_credit now row (prediction ∷ predictions) =
    ap (λ b. b || has_credit row (map (with_since now) predictions)) (since_credit (is_some prediction.since) now row prediction)
    ∙ ap (λ b. (prediction.credit && shows row prediction) || b) (waiting_credit now row predictions)

seen_trusted : (moment : Moment) (s : Screenshot) (predictions : PredictionsOf) → (seen_by moment s predictions).trusted ≡ true
    → (predictions.trusted ≡ true) ⊎ (has_credit (cursor_line s) predictions.list ≡ true)
seen_trusted moment s predictions e =
    let all = (waiting moment.at predictions).list in
    let count = count_right (cursor_line s) s.cursor_col all in
    let noted = left_by moment s predictions in
    let left = expired moment.at noted in
    let kept = begun_trusted left (is_none left.list && is_ended left.ends_with moment.acknowledged) e in
    let before = expired_trusted noted (is_any_over moment.at noted.list) kept in
    elim (either predictions.trusted (has_credit (cursor_line s) (take count all)) before) [
      | inl was ↦ inl was
      | inr credit ↦
          inr (sym (waiting_credit moment.at (cursor_line s) predictions.list) ∙ credit_of (cursor_line s) count all credit)
    ]

dropped_hidden : (predictions : PredictionsOf) (b : Bool) → (cond b none (dropped predictions)).trusted ≡ false
dropped_hidden predictions true = refl
dropped_hidden predictions false = refl

pub trust_is_earned : TrustIsEarned
trust_is_earned predictions = record {
  typed = λ number act s. typed_trusted number predictions (prediction_for number act s predictions);
  passed = λ number. refl;
  seen = λ moment s e. seen_trusted moment s predictions e;
  ends = λ acknowledged. dropped_hidden predictions (true && is_ended (last_act predictions.ends_with predictions.list) acknowledged);
}

-- ---- the act that ends an epoch

no_prediction : (ended few visible : Bool) (prediction : Option Prediction) → ended ≡ true → cond ((not ended && few) && visible) prediction None ≡ None
no_prediction true few visible prediction e = refl
no_prediction false few visible prediction e = absurd (false≢true e)

expired_ends : (predictions : PredictionsOf) (last : ℕ) (over : Bool) → predictions.ends_with ≡ Some last
    → (cond over (dropped predictions) predictions).ends_with ≡ Some last
expired_ends predictions last true was = ap (λ (o : Option ℕ). last_act o predictions.list) was
expired_ends predictions last false was = was

begun_none : (predictions : PredictionsOf) (last : ℕ) (b : Bool) → predictions.ends_with ≡ Some last → (cond b none predictions).ends_with ≡ None
    → cond b none predictions ≡ none
begun_none predictions last true was e = refl
begun_none predictions last false was e = let other : None ≡ Some last = sym e ∙ was in absurd cc

seen_none : (predictions : PredictionsOf) (last : ℕ) → predictions.ends_with ≡ Some last → (moment : Moment) (s : Screenshot)
    → (seen_by moment s predictions).ends_with ≡ None → seen_by moment s predictions ≡ none
seen_none predictions last was moment s e =
    let noted = left_by moment s predictions in
    let left = expired moment.at noted in
    begun_none left last (is_none left.list && is_ended left.ends_with moment.acknowledged)
    (expired_ends noted last (is_any_over moment.at noted.list) was) e

pub epochs_end : EpochsEnd
epochs_end predictions last was = record {
  typed = λ number act s.
      ap (λ (o : Option Prediction). (with_prediction_or_end number predictions o).list)
      (no_prediction (is_some predictions.ends_with) _ s.visible _ (ap (λ (o : Option ℕ). is_some o) was));
  seen = λ moment s e. seen_none predictions last was moment s e;
}

-- ---- whole runs

neither : (a b : Bool) → a ≡ false → ((a ≡ true) ⊎ (b ≡ true)) → b ≡ false → ⊥
neither a b hidden (inl is) e = false≢true (sym hidden ∙ is)
neither a b hidden (inr is) e = false≢true (sym e ∙ is)

not_trusted : (b : Bool) → (b ≡ true → ⊥) → b ≡ false
not_trusted true h = absurd (h refl)
not_trusted false h = refl

step_hidden : (predictions : PredictionsOf) (step : Step) → predictions.trusted ≡ false → confirms predictions step ≡ false
    → (after predictions step).trusted ≡ false
step_hidden predictions (Typed number act shown) hidden e = typed_trusted number predictions (prediction_for number act shown predictions) ∙ hidden
step_hidden predictions (Passed number) hidden e = hidden
step_hidden predictions (Seen moment shown) hidden e =
    not_trusted (seen_by moment shown predictions).trusted
    (λ is. neither predictions.trusted (has_credit (cursor_line shown) predictions.list) hidden (seen_trusted moment shown predictions is) e)
step_hidden predictions (Ended acknowledged) hidden e =
    dropped_hidden predictions (true && is_ended (last_act predictions.ends_with predictions.list) acknowledged)

run_hidden : (steps : List Step) (predictions : PredictionsOf) → predictions.trusted ≡ false → NoneConfirms predictions steps
    → (fold after predictions steps).trusted ≡ false
run_hidden [] predictions hidden none_confirms = hidden
run_hidden (step ∷ steps) predictions hidden none_confirms =
    run_hidden steps (after predictions step) (step_hidden predictions step hidden none_confirms.0) none_confirms.1

pub unconfirmed_is_hidden : UnconfirmedIsHidden
unconfirmed_is_hidden predictions steps s hidden h =
    let end = fold after predictions steps in
    hidden_by end s end.trusted (run_hidden steps predictions hidden h)

-- ---- after what ends an epoch

told_timeless : (b d : Bool) (now : ℕ) (prediction : Prediction)
    → timeless (cond b prediction (cond d (record prediction { told = Some now }) prediction)) ≡ timeless prediction
told_timeless true d now prediction = refl
told_timeless false true now prediction = refl
told_timeless false false now prediction = refl

all_told : (moment : Moment) (predictions : List Prediction) → map timeless (map (with_told moment) predictions) ≡ map timeless predictions
all_told moment [] = refl
all_told moment (prediction ∷ predictions) =
    ap (λ (g : Prediction). g ∷ map timeless (map (with_told moment) predictions))
    (told_timeless (is_some prediction.told) (counts moment prediction) moment.at prediction)
    ∙ ap (λ (gs : List Prediction). timeless prediction ∷ gs) (all_told moment predictions)

since_timeless : (b : Bool) (now : ℕ) (prediction : Prediction) → timeless (cond b prediction (record prediction { since = Some now })) ≡ timeless prediction
since_timeless true now prediction = refl
since_timeless false now prediction = refl

all_waiting : (now : ℕ) (predictions : List Prediction) → map timeless (map (with_since now) predictions) ≡ map timeless predictions
all_waiting now [] = refl
all_waiting now (prediction ∷ predictions) =
    ap (λ (g : Prediction). g ∷ map timeless (map (with_since now) predictions)) (since_timeless (is_some prediction.since) now prediction)
    ∙ ap (λ (gs : List Prediction). timeless prediction ∷ gs) (all_waiting now predictions)

drop_all : (predictions : List Prediction) → [] ≡ drop (length predictions) predictions
drop_all [] = refl
drop_all (prediction ∷ predictions) = drop_all predictions

all_gone : (before : PredictionsOf) (predictions : PredictionsOf) (last : ℕ) → predictions.list ≡ [] → predictions.ends_with ≡ Some last
    → ShowsNoMore before predictions
all_gone before predictions last none_left was =
    ones_left last (length (map timeless before.list)) was (ap (λ (gs : List Prediction). map timeless gs) none_left ∙ drop_all (map timeless before.list))

begun_no_more : (before predictions : PredictionsOf) (b : Bool) → ShowsNoMore before predictions → ShowsNoMore before (cond b none predictions)
begun_no_more before predictions true h = untrusted refl
begun_no_more before predictions false h = h

expired_no_more : (before predictions : PredictionsOf) (last gone : ℕ) (over : Bool) → predictions.ends_with ≡ Some last
    → map timeless predictions.list ≡ drop gone (map timeless before.list) → ShowsNoMore before (cond over (dropped predictions) predictions)
expired_no_more before predictions last gone true was same =
    all_gone before (dropped predictions) last refl (ap (λ (o : Option ℕ). last_act o predictions.list) was)
expired_no_more before predictions last gone false was same = ones_left last gone was same

seen_no_more : (before predictions : PredictionsOf) (last gone : ℕ) (moment : Moment) (s : Screenshot) → predictions.ends_with ≡ Some last
    → map timeless predictions.list ≡ drop gone (map timeless before.list) → ShowsNoMore before (seen_by moment s predictions)
seen_no_more before predictions last gone moment s was same =
    let all = (waiting moment.at predictions).list in
    let count = count_right (cursor_line s) s.cursor_col all in
    let noted = left_by moment s predictions in
    let over = expired moment.at noted in
    let here : map timeless all ≡ drop gone (map timeless before.list) = all_waiting moment.at predictions.list ∙ same in
    begun_no_more before over (is_none over.list && is_ended over.ends_with moment.acknowledged)
    (expired_no_more before noted last (gone + count) (is_any_over moment.at noted.list) was
    (all_told moment (drop count all) ∙ sym (drop-map timeless count all) ∙ ap (λ (gs : List Prediction). drop count gs) here
    ∙ drop-drop count gone (map timeless before.list)))

step_no_more : (before predictions : PredictionsOf) (step : Step) → (predictions.trusted ≡ false → confirms predictions step ≡ false)
    → ShowsNoMore before predictions → ShowsNoMore before (after predictions step)
step_no_more before predictions step e (untrusted h) = untrusted (step_hidden predictions step h (e h))
step_no_more before predictions (Typed number act shown) e (ones_left last gone was same) =
    let predicted : prediction_for number act shown predictions ≡ None =
    no_prediction (is_some predictions.ends_with) _ shown.visible _ (ap (λ (o : Option ℕ). is_some o) was) in
    ones_left number gone (ap (λ (o : Option Prediction). (with_prediction_or_end number predictions o).ends_with) predicted)
    (ap (λ (o : Option Prediction). map timeless (with_prediction_or_end number predictions o).list) predicted ∙ same)
step_no_more before predictions (Passed number) e (ones_left last gone was same) = ones_left number gone refl same
step_no_more before predictions (Seen moment shown) e (ones_left last gone was same) =
    seen_no_more before predictions last gone moment shown was same
step_no_more before predictions (Ended acknowledged) e (ones_left last gone was same) =
    begun_no_more before (dropped predictions) (true && is_ended (last_act predictions.ends_with predictions.list) acknowledged)
    (all_gone before (dropped predictions) last refl (ap (λ (o : Option ℕ). last_act o predictions.list) was))

run_no_more : (before predictions : PredictionsOf) (steps : List Step) → NoneEarns predictions steps → ShowsNoMore before predictions
    → ShowsNoMore before (fold after predictions steps)
run_no_more before predictions [] e h = h
run_no_more before predictions (step ∷ steps) e h =
    run_no_more before (after predictions step) steps e.1 (step_no_more before predictions step e.0 h)

pub ended_shows_no_more : EndedShowsNoMore
ended_shows_no_more before last steps was e = run_no_more before before steps e (ones_left last 0 was refl)
