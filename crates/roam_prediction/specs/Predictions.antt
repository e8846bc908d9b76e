-- Predictions of the effect of keys in the row of the cursor (this project's profile, after Mosh's speculative local echo).
use Rattle.std.specs.Prelude.{◌≡◌, ℕ, ◌-◌, ◌==◌, ◌≤◌, Bool, true, false, not, ◌&&◌, List, [], ◌∷◌, length, Option, None, Some, IfSome, All, Vec, if◌then◌else◌}
use Rattle.std.specs.Vec.{vec_capacity}
use Rattle.std.specs.declared.alloc.Global.{Global}
use Rattle.roam_cells.specs.Glyph.{Glyph, is_right_half, is_wide}
use Rattle.roam_prediction.specs.declared.predictions.Prediction.{Prediction}
use Rattle.roam_prediction.specs.declared.predictions.Place.{Place}

-- how many predictions there are at most
abbrev pub most_predictions : ℕ
most_predictions = 64

-- how many milliseconds a prediction stays after its acknowledgement counted
abbrev pub grace : ℕ
grace = 100

-- how many milliseconds after it was made an acknowledgement counts at the latest
abbrev pub longest : ℕ
longest = 150

-- all predictions in the order of their acts, whether one of their epoch was confirmed with credit, and the act, if one wasn't predicted,
-- with which their epoch ends
pub record PredictionsOf : Type 0 where
  pub list : List Prediction
  pub trusted : Bool
  pub ends_with : Option ℕ

-- no prediction, in an epoch that is hidden
abbrev pub none : PredictionsOf
none = record { list = []; trusted = false; ends_with = None }

-- the number of the last of these predictions, or another one if there is none
abbrev pub last_of : Option ℕ → List Prediction → Option ℕ
last_of before [] = before
last_of before (prediction ∷ predictions) = last_of (Some prediction.number) predictions

-- the act with which an epoch ends whose predictions all go: the one that wasn't predicted, else the last one that was
abbrev pub last_act : Option ℕ → List Prediction → Option ℕ
last_act None predictions = last_of None predictions
last_act (Some number) predictions = Some number

-- all predictions go, the epoch isn't trusted any more, and nothing more is predicted until the typed acts are acknowledged, since their
-- places are unknown
abbrev pub dropped : PredictionsOf → PredictionsOf
dropped predictions = record { list = []; trusted = false; ends_with = last_act predictions.ends_with predictions.list }

abbrev pub is_none : List Prediction → Bool
is_none [] = true
is_none (prediction ∷ predictions) = false

-- since a moment or since now
abbrev pub waited_since : ℕ → Option ℕ → ℕ
waited_since now None = 0
waited_since now (Some since) = now - since

-- for how many milliseconds a prediction has waited
abbrev pub waited : ℕ → Prediction → ℕ
waited now prediction = waited_since now prediction.since

-- the same of a prediction, from 0 on in their order
abbrev pub waited_in : ℕ → List Prediction → ℕ → Option ℕ
waited_in now [] place = None
waited_in now (prediction ∷ predictions) place = if place == 0 then Some (waited now prediction) else waited_in now predictions (place - 1)

-- whether anything is shown over a screen
abbrev pub are_shown : PredictionsOf → Bool
are_shown predictions = predictions.trusted && not (is_none predictions.list)

-- a cell of one column
abbrev pub is_narrow : Glyph → Bool
is_narrow cell = not (is_wide cell) && not (is_right_half cell)

-- a cell of one column without a guard, so that it may take the place of any such cell
pub record MayStand (place : Place) : Type 0 where
  pub narrow : is_narrow place.cell ≡ true
  pub unguarded : place.cell.guarded ≡ false

abbrev pub IsPrediction : Prediction → Type 0
IsPrediction prediction = IfSome prediction.place MayStand

-- the facts about the kept predictions
pub record IsKept (list : Vec Prediction Global) : Type 0 where
  pub few : length list.items ≤ most_predictions
  pub room : most_predictions ≤ vec_capacity list
  pub predictions : All IsPrediction list.items
