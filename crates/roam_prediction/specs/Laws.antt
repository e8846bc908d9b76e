-- The laws of predictions, whatever is typed and shown.
use Rattle.std.specs.Prelude.{◌≡◌, ◌≢◌, ◌⊎◌, ℕ, ◌+◌, ◌<◌, Bool, true, false, List, [], ◌∷◌, map, drop, Some, None, is_some, All}
use Rattle.std.specs.List.{fold}
use Rattle.roam_acts.specs.declared.acts.Act.{Act}
use Rattle.roam_cells.specs.Place.{cell_at}
use Rattle.roam_screens.specs.Screenshot.{Screenshot, IsScreenshot}
use Rattle.roam_prediction.specs.Predictions.{PredictionsOf, IsPrediction, dropped, is_narrow, none}
use Rattle.roam_prediction.specs.Overlay.{cursor_line, overlay}
use Rattle.roam_prediction.specs.Typing.{ended_with, latest, typed_by}
use Rattle.roam_prediction.specs.Verdicts.{begun, counts, has_credit, is_any_over, is_over, judged, left_by}
use Rattle.roam_prediction.specs.declared.predictions.Prediction.{Prediction}
use Rattle.roam_prediction.specs.declared.predictions.Moment.{Moment}

-- ---- the overlay of a screen

-- A screen with predictions over it has its size, and its cursor in the same row, visible or not. It shows the same at each place of
-- another row, at each that no prediction writes, and at each that isn't one cell of one column. Any other place gets a cell of one column.
pub record ChangesPredicted (predictions : PredictionsOf) (s : Screenshot) : Type 0 where
  pub rows : (overlay predictions s).rows ≡ s.rows
  pub cols : (overlay predictions s).cols ≡ s.cols
  pub cursor_row : (overlay predictions s).cursor_row ≡ s.cursor_row
  pub visible : (overlay predictions s).visible ≡ s.visible
  pub other_rows : (r c : ℕ) → r < s.rows → c < s.cols → r + 1 ≢ s.cursor_row
      → cell_at s.cols (overlay predictions s).cells r c ≡ cell_at s.cols s.cells r c
  pub unpredicted : (r c : ℕ) → r < s.rows → c < s.cols → latest predictions.list (c + 1) ≡ None
      → cell_at s.cols (overlay predictions s).cells r c ≡ cell_at s.cols s.cells r c
  pub wide : (r c : ℕ) → r < s.rows → c < s.cols → is_narrow (cell_at s.cols s.cells r c) ≡ false
      → cell_at s.cols (overlay predictions s).cells r c ≡ cell_at s.cols s.cells r c
  pub narrow : (r c : ℕ) → r < s.rows → c < s.cols → is_narrow (cell_at s.cols s.cells r c) ≡ true
      → is_narrow (cell_at s.cols (overlay predictions s).cells r c) ≡ true

abbrev pub OverlayChangesPredicted : Type 0
OverlayChangesPredicted = (predictions : PredictionsOf) (s : Screenshot) → IsScreenshot s → All IsPrediction predictions.list → ChangesPredicted predictions s

-- if an epoch isn't trusted, or nothing is predicted, the screen itself is shown
pub record ShowsScreen (predictions : PredictionsOf) (s : Screenshot) : Type 0 where
  pub hidden : predictions.trusted ≡ false → overlay predictions s ≡ s
  pub none : predictions.list ≡ [] → overlay predictions s ≡ s

abbrev pub NothingShows : Type 0
NothingShows = (predictions : PredictionsOf) (s : Screenshot) → ShowsScreen predictions s

-- ---- epochs

-- the predictions once a screen was seen that follows the one before
abbrev pub seen_by : Moment → Screenshot → PredictionsOf → PredictionsOf
seen_by moment s predictions = begun moment.acknowledged (judged moment s predictions)

-- an epoch is trusted since a prediction of it was confirmed with credit by a screen that was seen, and by nothing else
pub record IsTrustedByScreens (predictions : PredictionsOf) : Type 0 where
  pub typed : (number : ℕ) (act : Act) (s : Screenshot) → (typed_by number act s predictions).trusted ≡ predictions.trusted
  pub passed : (number : ℕ) → (ended_with number predictions).trusted ≡ predictions.trusted
  pub seen : (moment : Moment) (s : Screenshot) → (seen_by moment s predictions).trusted ≡ true
      → (predictions.trusted ≡ true) ⊎ (has_credit (cursor_line s) predictions.list ≡ true)
  pub ends : (acknowledged : ℕ) → (begun acknowledged (dropped predictions)).trusted ≡ false

abbrev pub TrustIsEarned : Type 0
TrustIsEarned = (predictions : PredictionsOf) → IsTrustedByScreens predictions

-- if an act wasn't predicted, nothing more is predicted until another epoch begins, which has no prediction and isn't trusted
pub record EndsWithAct (predictions : PredictionsOf) : Type 0 where
  pub typed : (number : ℕ) (act : Act) (s : Screenshot) → (typed_by number act s predictions).list ≡ predictions.list
  pub seen : (moment : Moment) (s : Screenshot) → (seen_by moment s predictions).ends_with ≡ None → seen_by moment s predictions ≡ none

abbrev pub EpochsEnd : Type 0
EpochsEnd = (predictions : PredictionsOf) (last : ℕ) → predictions.ends_with ≡ Some last → EndsWithAct predictions

-- ---- whole runs

-- An event of predictions: an act is typed over a shown screen; acts are typed that aren't predicted, the last one of a number; a screen is
-- seen that follows the one before, or one that doesn't.
pub data Step : Type 0 where
  Typed : (number : ℕ) → (act : Act) → (shown : Screenshot) → Step
  Passed : (number : ℕ) → Step
  Seen : (moment : Moment) → (shown : Screenshot) → Step
  Ended : (acknowledged : ℕ) → Step

-- the predictions after it
abbrev pub after : PredictionsOf → Step → PredictionsOf
after predictions (Typed number act shown) = typed_by number act shown predictions
after predictions (Passed number) = ended_with number predictions
after predictions (Seen moment shown) = seen_by moment shown predictions
after predictions (Ended acknowledged) = begun acknowledged (dropped predictions)

-- it confirms a prediction with credit
abbrev pub confirms : PredictionsOf → Step → Bool
confirms predictions (Typed number act shown) = false
confirms predictions (Passed number) = false
confirms predictions (Seen moment shown) = has_credit (cursor_line shown) predictions.list
confirms predictions (Ended acknowledged) = false

-- none of these does, one after the other
abbrev pub NoneConfirms : PredictionsOf → List Step → Type 0
NoneConfirms predictions [] = Unit {0}
NoneConfirms predictions (step ∷ steps) = (confirms predictions step ≡ false) × NoneConfirms (after predictions step) steps

-- in an epoch that isn't trusted the screen itself is shown, whatever happens, unless a screen confirms a prediction with credit
abbrev pub UnconfirmedIsHidden : Type 0
UnconfirmedIsHidden =
    (predictions : PredictionsOf) (steps : List Step) (s : Screenshot) → predictions.trusted ≡ false → NoneConfirms predictions steps
    → overlay (fold after predictions steps) s ≡ s

-- no screen confirms with credit a prediction of an epoch that isn't trusted
abbrev pub NoneEarns : PredictionsOf → List Step → Type 0
NoneEarns predictions [] = Unit {0}
NoneEarns predictions (step ∷ steps) = (predictions.trusted ≡ false → confirms predictions step ≡ false) × NoneEarns (after predictions step) steps

-- a prediction but for its moments
abbrev pub timeless : Prediction → Prediction
timeless prediction = record prediction { since = None; told = None }

-- nothing more is predicted, and the last of the predictions that were there are left; or the epoch isn't trusted
pub data ShowsNoMore (before predictions : PredictionsOf) : Type 0 where
  ones_left : (last gone : ℕ) → predictions.ends_with ≡ Some last → map timeless predictions.list ≡ drop gone (map timeless before.list)
      → ShowsNoMore before predictions
  untrusted : predictions.trusted ≡ false → ShowsNoMore before predictions

-- After the end of an epoch nothing is shown beyond the earlier predictions, until a screen confirms with credit a prediction of another.
abbrev pub EndedShowsNoMore : Type 0
EndedShowsNoMore =
    (before : PredictionsOf) (last : ℕ) (steps : List Step) → before.ends_with ≡ Some last → NoneEarns before steps
    → ShowsNoMore before (fold after before steps)

-- ---- time

-- the time of a prediction isn't over, and of one whose acknowledgement counts it is noted
pub record IsInTime (moment : Moment) (prediction : Prediction) : Type 0 where
  pub over : is_over moment.at prediction ≡ false
  pub told : counts moment prediction ≡ true → is_some prediction.told ≡ true

-- After a screen is seen this is true of each prediction that is left. So none stays for a quarter of a second after the first screen that
-- was seen once its act was acknowledged.
abbrev pub TimeEnds : Type 0
TimeEnds = (moment : Moment) (s : Screenshot) (predictions : PredictionsOf) → All (IsInTime moment) (seen_by moment s predictions).list

-- If the time of a prediction is over and a screen doesn't confirm it, as for a key that isn't echoed, none is left and the epoch isn't
-- trusted. So nothing is shown until a later prediction is confirmed with credit.
abbrev pub UnechoedEnds : Type 0
UnechoedEnds = (moment : Moment) (s : Screenshot) (predictions : PredictionsOf) → is_any_over moment.at (left_by moment s predictions).list ≡ true
    → ((seen_by moment s predictions).list ≡ []) × ((seen_by moment s predictions).trusted ≡ false)
