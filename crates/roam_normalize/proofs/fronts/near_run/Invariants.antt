use Rattle.std.proofs.Common.{◌≤◌, ◌-◌, length, take}
use Rattle.roam_normalize.specs.Found.{AreStill}
use Rattle.roam_normalize.proofs.fronts.near_run.Given as goal

abbrev pub invariant-loop-at : goal.invariant-loop-at
invariant-loop-at l = (l.at ≤ length l.bytes) × AreStill (take l.at l.bytes)

abbrev pub decreases-loop-at : goal.decreases-loop-at
decreases-loop-at l = length l.bytes - l.at
