-- Which predictions are right, wrong or over, once another screen is shown (this project's profile, after Mosh's speculative local echo).
use Rattle.std.specs.Prelude.{◌≡◌, ◌⊎◌, ℕ, ◌+◌, ◌-◌, ◌==◌, Bool, true, false, ◌&&◌, ◌||◌, nat_le, nat_lt, min, List, [], ◌∷◌, map, take, drop, Option, None, Some, is_some, if◌then◌else◌}
use Rattle.std.specs.Str.{bytes_eq}
use Rattle.roam_cells.specs.Glyph.{Glyph}
use Rattle.roam_cells.specs.Place.{glyph_at, row_of}
use Rattle.roam_screens.specs.Screenshot.{Screenshot}
use Rattle.roam_prediction.specs.Predictions.{PredictionsOf, dropped, grace, is_none, longest, none, waited}
use Rattle.roam_prediction.specs.Overlay.{cursor_line, has_place}
use Rattle.roam_prediction.specs.Typing.{latest}
use Rattle.roam_prediction.specs.declared.predictions.Prediction.{Prediction}
use Rattle.roam_prediction.specs.declared.predictions.Moment.{Moment}
use Rattle.roam_prediction.specs.declared.predictions.Place.{Place}

-- ---- right

-- a row shows a predicted cell's code points at its place
abbrev pub shows_place : List Glyph → Option Place → Bool
shows_place row None = false
shows_place row (Some place) = has_place row place.col && bytes_eq (glyph_at row (place.col - 1)).points place.cell.points

abbrev pub shows : List Glyph → Prediction → Bool
shows row prediction = shows_place row prediction.place

-- a later prediction writes there, or there is nothing to show
abbrev pub is_place_written : List Prediction → Option Place → Bool
is_place_written later None = true
is_place_written later (Some place) = is_some (latest later place.col)

abbrev pub is_written : List Prediction → Prediction → Bool
is_written later prediction = is_place_written later prediction.place

-- the cursor goes to a column by these predictions
abbrev pub is_way : List Prediction → ℕ → Bool
is_way [] col = false
is_way (prediction ∷ predictions) col = (prediction.after == col) || is_way predictions col

-- the first of these predictions is right: its cell is shown, unless a later one writes there, and the cursor is on its way
abbrev pub is_right : List Glyph → ℕ → List Prediction → Bool
is_right row col [] = false
is_right row col (prediction ∷ predictions) =
    (shows row prediction || is_written predictions prediction) && is_way (prediction ∷ predictions) col

-- how many predictions from the first on are right
abbrev pub count_right : List Glyph → ℕ → List Prediction → ℕ
count_right row col [] = 0
count_right row col (prediction ∷ predictions) = if is_right row col (prediction ∷ predictions) then 1 + count_right row col predictions else 0

-- one is confirmed with credit: the screen shows its cell, and didn't before
abbrev pub has_credit : List Glyph → List Prediction → Bool
has_credit row [] = false
has_credit row (prediction ∷ predictions) = (prediction.credit && shows row prediction) || has_credit row predictions

-- right predictions go, and their epoch is trusted if one of them had credit
abbrev pub confirmed : List Glyph → ℕ → PredictionsOf → PredictionsOf
confirmed row col predictions =
    record {
      list = drop (count_right row col predictions.list) predictions.list;
      trusted = predictions.trusted || has_credit row (take (count_right row col predictions.list) predictions.list);
      ends_with = predictions.ends_with;
    }

-- ---- over

-- a prediction waits since the first screen that is seen after it was made
abbrev pub with_since : ℕ → Prediction → Prediction
with_since now prediction = if is_some prediction.since then prediction else record prediction { since = Some now }

abbrev pub waiting : ℕ → PredictionsOf → PredictionsOf
waiting now predictions = record predictions { list = map (with_since now) predictions.list }

-- an acknowledgement counts once a prediction has waited so long, since an echo comes after it, and later if the network loses datagrams
abbrev pub least_wait : Moment → ℕ
least_wait moment = min moment.delay longest

abbrev pub counts : Moment → Prediction → Bool
counts moment prediction = nat_le prediction.number moment.acknowledged && nat_le (least_wait moment) (waited moment.at prediction)

-- a prediction of which it is noted when its acknowledgement counted first
abbrev pub with_told : Moment → Prediction → Prediction
with_told moment prediction =
    if is_some prediction.told then prediction else (if counts moment prediction then record prediction { told = Some moment.at } else prediction)

-- its time is over: its acknowledgement counted so long ago
abbrev pub is_long_ago : ℕ → Option ℕ → Bool
is_long_ago now None = false
is_long_ago now (Some told) = nat_le grace (now - told)

abbrev pub is_over : ℕ → Prediction → Bool
is_over now prediction = is_long_ago now prediction.told

-- the time of one is over
abbrev pub is_any_over : ℕ → List Prediction → Bool
is_any_over now [] = false
is_any_over now (prediction ∷ predictions) = is_over now prediction || is_any_over now predictions

-- if the time of one is over all go, since those behind it depend on its place
abbrev pub expired : ℕ → PredictionsOf → PredictionsOf
expired now predictions = if is_any_over now predictions.list then dropped predictions else predictions

-- the predictions that a screen doesn't confirm, and of which it is noted when their acknowledgements counted
abbrev pub left_by : Moment → Screenshot → PredictionsOf → PredictionsOf
left_by moment s predictions =
    let right = confirmed (cursor_line s) s.cursor_col (waiting moment.at predictions) in
    record right { list = map (with_told moment) right.list }

-- the verdict of a screen on the predictions: the right ones, the acknowledgements that count, and whether the time of one is over
abbrev pub judged : Moment → Screenshot → PredictionsOf → PredictionsOf
judged moment s predictions = expired moment.at (left_by moment s predictions)

-- ---- epochs

-- A screen follows another by itself or by predictions: its size, its status row and the cursor's row are the same. The cursor is visible,
-- and is at its old place or at one that a prediction brings it to.
pub record Follows (before s : Screenshot) (predictions : List Prediction) : Type 0 where
  pub rows : before.rows ≡ s.rows
  pub cols : before.cols ≡ s.cols
  pub status : row_of before.cols before.cells (before.rows - 1) ≡ row_of s.cols s.cells (s.rows - 1)
  pub row : before.cursor_row ≡ s.cursor_row
  pub visible : s.visible ≡ true
  pub way : (before.cursor_col ≡ s.cursor_col) ⊎ (is_way predictions s.cursor_col ≡ true)

-- the act with which an epoch ends is acknowledged
abbrev pub is_ended : Option ℕ → ℕ → Bool
is_ended None acknowledged = false
is_ended (Some number) acknowledged = nat_le number acknowledged

-- another epoch begins hidden if the act with which this one ends is acknowledged, and no prediction is left
abbrev pub begun : ℕ → PredictionsOf → PredictionsOf
begun acknowledged predictions = if is_none predictions.list && is_ended predictions.ends_with acknowledged then none else predictions
