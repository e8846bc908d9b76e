-- The time until typed keys are shown, and its effect on predictions (this project's profile, after Mosh's adaptive display).
use Rattle.std.specs.Prelude.{ℕ, zero, suc, ◌+◌, ◌-◌, ◌≤◌, Bool, false, not, ◌&&◌, ◌||◌, nat_lt, nat_le, max, List, [], ◌∷◌, ◌++◌, length, drop, Option, None, Some, Vec, if◌then◌else◌}
use Rattle.std.specs.Vec.{vec_capacity}
use Rattle.std.specs.declared.alloc.Global.{Global}
use Rattle.roam_prediction.specs.Predictions.{waited_in}
use Rattle.roam_prediction.specs.declared.predictions.Prediction.{Prediction}

-- of so many delays each is kept
abbrev pub most_kept : ℕ
most_kept = 10

-- the last delays, and whether they are slow
pub record DelaysOf : Type 0 where
  pub last : List ℕ
  pub slow : Bool

-- nothing was shown yet
abbrev pub no_delay : DelaysOf
no_delay = record { last = []; slow = false }

-- the facts about the kept delays
pub record AreKept (last : Vec ℕ Global) : Type 0 where
  pub few : length last.items ≤ most_kept
  pub room : most_kept ≤ vec_capacity last

-- how many delays are above a limit
abbrev pub count_above : List ℕ → ℕ → ℕ
count_above [] limit = 0
count_above (delay ∷ delays) limit = if nat_lt limit delay then 1 + count_above delays limit else count_above delays limit

-- six of the last ten delays are above a limit
abbrev pub are_most_above : List ℕ → ℕ → Bool
are_most_above last limit = nat_le 6 (count_above last limit)

-- six of them are not
abbrev pub are_most_within : List ℕ → ℕ → Bool
are_most_within last limit = nat_le 6 (length last - count_above last limit)

-- predictions are shown if the median is above 10 ms, and until it is below 5 ms
abbrev pub is_slow : List ℕ → Bool → Bool
is_slow last was = are_most_above last 10 || (was && not (are_most_within last 4))

-- the first prediction that isn't confirmed has waited for 250 ms
abbrev pub waits_long : Option ℕ → Bool
waits_long None = false
waits_long (Some waited) = nat_le 250 waited

-- predicted cells are underlined if the median is above 80 ms, or one has waited for 250 ms
abbrev pub is_long : List ℕ → List Prediction → ℕ → Bool
is_long last predictions now = are_most_above last 80 || waits_long (waited_in now predictions 0)

-- the longest of the last delays
abbrev pub longest : List ℕ → ℕ
longest [] = 0
longest (delay ∷ delays) = max (longest delays) delay

-- another delay: the last ten are kept
abbrev pub with_delay : ℕ → List ℕ → List ℕ
with_delay delay last = (if nat_lt (length last) most_kept then last else drop 1 last) ++ delay ∷ []

abbrev pub with_waited : Option ℕ → List ℕ → List ℕ
with_waited None last = last
with_waited (Some waited) last = with_delay waited last

-- so many predictions from a place on were shown to be right at a moment: each has waited until then
abbrev pub with_right : List Prediction → ℕ → ℕ → ℕ → List ℕ → List ℕ
with_right predictions now place zero last = last
with_right predictions now place (suc n) last = with_right predictions now (place + 1) n (with_waited (waited_in now predictions place) last)

-- the first so many predictions were shown to be right
abbrev pub after_right : List Prediction → ℕ → ℕ → DelaysOf → DelaysOf
after_right predictions now count delays =
    record {
      last = with_right predictions now 0 count delays.last;
      slow = is_slow (with_right predictions now 0 count delays.last) delays.slow;
    }
