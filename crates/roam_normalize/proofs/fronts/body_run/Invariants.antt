use Rattle.std.proofs.Common.{◌≡◌, ◌≤◌, ◌-◌, length, take, drop}
use Rattle.roam_normalize.specs.Normalized.{most_body, scan}
use Rattle.roam_normalize.specs.Found.{with_bytes}
use Rattle.roam_normalize.proofs.fronts.body_run.Given as goal

abbrev pub invariant-loop-at : goal.invariant-loop-at
invariant-loop-at l =
    (l.at ≤ length l.bytes) × (l.at ≤ most_body)
    × (scan most_body l.bytes ≡ with_bytes (take l.at l.bytes) (scan (most_body - l.at) (drop l.at l.bytes)))

abbrev pub decreases-loop-at : goal.decreases-loop-at
decreases-loop-at l = length l.bytes - l.at
