use Rattle.std.proofs.Common.{◌≡◌, ◌≤◌, ◌<◌, ◌-◌, ◌++◌, ℕ, List, length, take, drop}
use Rattle.std.specs.Prelude.{slice_index}
use Rattle.roam_normalize.specs.Found.{with_bytes}
use Rattle.roam_normalize.specs.Normalized.{most_body, scan}
use Rattle.roam_normalize.specs.Renditions.{may_change}
use Rattle.roam_normalize.proofs.fronts.plain_body.Given as goal

abbrev pub invariant-loop-at : goal.invariant-loop-at
invariant-loop-at l =
    (l.at ≤ length l.rest) × (l.at ≤ most_body) × (l.semicolons ≤ l.at)
    × (0 < l.at → slice_index l.rest 0 < 0x3C)
    × (scan most_body l.rest ≡ with_bytes (take l.at l.rest) (scan (most_body - l.at) (drop l.at l.rest)))
    × ((more : List ℕ) → may_change 0 0 (take l.at l.rest ++ more) ≡ may_change l.before l.semicolons more)

abbrev pub decreases-loop-at : goal.decreases-loop-at
decreases-loop-at l = length l.rest - l.at
