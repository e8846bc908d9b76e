-- The predictions of an outer terminal: the fold of the keys typed and of the screens noted of it, one after the other.
use Rattle.std.specs.Prelude.{◌≡◌, ℕ, ◌+◌, ◌-◌, ◌^◌, ◌==◌, ◌||◌, ◌&&◌, not, min, nat_lt, Bool, true, false, List, [], ◌∷◌, length, Option, Some, None, if◌then◌else◌}
use Rattle.roam_acts.specs.declared.acts.Act.{Act}
use Rattle.roam_prediction.specs.Predictions.{PredictionsOf, are_shown}
use Rattle.roam_prediction.specs.Laws.{Step, Typed, Passed, Seen, Ended, after}
use Rattle.roam_prediction.specs.Overlay.{cursor_line, overlay}
use Rattle.roam_prediction.specs.Underlined.{underlined}
use Rattle.roam_prediction.specs.Verdicts.{Follows, count_right}
use Rattle.roam_prediction.specs.declared.predictions.Moment.{Moment}
use Rattle.roam_screens.specs.Screenshot.{Screenshot}
use Rattle.roam_overlay.specs.Delays.{DelaysOf, after_right, is_long, longest}

-- a screen by which predictions were judged, and its number
pub record JudgedOf : Type 0 where
  pub number : ℕ
  pub screen : Screenshot

-- the predictions, whether they are shown on slow links only, the delays, and the screen of the last judgement
pub record OverlayOf : Type 0 where
  pub predictions : PredictionsOf
  pub adaptive : Bool
  pub delays : DelaysOf
  pub seen : Option JudgedOf

-- the screen of the last judgement, or another if there was none
abbrev pub screen_or : Option JudgedOf → Screenshot → Screenshot
screen_or None s = s
screen_or (Some judged) s = judged.screen

-- ---- typed acts

-- a line of more acts isn't predicted
abbrev pub most_predicted : ℕ
most_predicted = 8

abbrev pub next_number : ℕ → ℕ
next_number number = min (number + 1) (2 ^ 64 - 1)

-- acts are typed, the first under a number
abbrev pub typed_steps : ℕ → List Act → Screenshot → List Step
typed_steps first [] s = []
typed_steps first (act ∷ acts) s = Typed first act s ∷ typed_steps (next_number first) acts s

-- the number of the last of so many acts
abbrev pub last_number : ℕ → ℕ → ℕ
last_number first count = min (first + count) (2 ^ 64 - 1) - 1

-- the acts of a line are typed: a paste, and a line of more than eight acts, isn't predicted, and ends the epoch
abbrev pub line_steps : Bool → ℕ → List Act → Screenshot → List Step
line_steps pasted first acts s =
    if pasted || nat_lt most_predicted (length acts) then Passed (last_number first (length acts)) ∷ [] else typed_steps first acts s

-- ---- seen screens

-- a screen is judged by after another one: it follows that one, or it doesn't
pub data Sees (before s : Screenshot) (moment : Moment) (predictions : PredictionsOf) (step : Step) : Type 0 where
  seen : Follows before s predictions.list → step ≡ Seen moment s → Sees before s moment predictions step
  ended : (Follows before s predictions.list → ⊥) → step ≡ Ended moment.acknowledged → Sees before s moment predictions step

-- the screen of the last judgement has a number
abbrev pub is_number : ℕ → Option JudgedOf → Bool
is_number number None = false
is_number number (Some judged) = judged.number == number

-- A screen of a number is seen after that of the last judgement, and is that of the last from then on, if it isn't already.
pub data Keeps (number : ℕ) (s : Screenshot) (moment : Moment) (predictions : PredictionsOf) (step : Step) (old new : Option JudgedOf)
    : Type 0 where
  already : is_number number old ≡ true → Sees (screen_or old s) s moment predictions step → new ≡ old
      → Keeps number s moment predictions step old new
  kept : is_number number old ≡ false → Sees (screen_or old s) s moment predictions step
      → new ≡ Some (record { number = number; screen = s }) → Keeps number s moment predictions step old new

-- A screen of a number is noted at a moment, and so many acts are acknowledged: the predictions are judged by it.
pub record Judges (number : ℕ) (s : Screenshot) (acknowledged now : ℕ) (old new : OverlayOf) : Type 0 where
  pub adaptive : new.adaptive ≡ old.adaptive
  pub delays : new.delays
      ≡ after_right old.predictions.list now (count_right (cursor_line s) s.cursor_col old.predictions.list) old.delays
  pub step : Step
  pub sees : Keeps number s (record { at = now; acknowledged = acknowledged; delay = longest new.delays.last }) old.predictions step
      old.seen new.seen
  pub predictions : new.predictions ≡ after old.predictions step

-- There was no memory to keep a screen of another number than that of the last judgement. Nothing is judged by it, and all predictions end.
pub record Loses (number : ℕ) (s : Screenshot) (acknowledged now : ℕ) (old new : OverlayOf) : Type 0 where
  pub adaptive : new.adaptive ≡ old.adaptive
  pub delays : new.delays
      ≡ after_right old.predictions.list now (count_right (cursor_line s) s.cursor_col old.predictions.list) old.delays
  pub other : is_number number old.seen ≡ false
  pub seen : new.seen ≡ old.seen
  pub predictions : new.predictions ≡ after old.predictions (Ended acknowledged)

-- ---- shown predictions

-- true if predictions are shown
abbrev pub is_shown : OverlayOf → Bool
is_shown o = are_shown o.predictions && (not o.adaptive || o.delays.slow)

-- a screen with the predictions over it at a moment, underlined on a slow link
abbrev pub laid_over : OverlayOf → Screenshot → ℕ → Screenshot
laid_over o s now =
    if is_long o.delays.last o.predictions.list now then overlay (underlined o.predictions) s else overlay o.predictions s

-- a screen with the predictions over it at a moment, if they are shown
abbrev pub shown_over : OverlayOf → Screenshot → ℕ → Option Screenshot
shown_over o s now = if is_shown o then Some (laid_over o s now) else None
