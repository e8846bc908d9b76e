use Rattle.std.proofs.Common.{◌≡◌, ◌≤◌, ◌-◌, length, drop}
use Rattle.roam_normalize.specs.Renditions.{may_change}
use Rattle.roam_normalize.proofs.renditions.may_change.Given as goal

abbrev pub invariant-loop-at : goal.invariant-loop-at
invariant-loop-at l = (l.at ≤ length l.bytes) × (l.semicolons ≤ l.at) × (may_change l.before l.semicolons (drop l.at l.bytes) ≡ may_change 0 0 l.bytes)

abbrev pub decreases-loop-at : goal.decreases-loop-at
decreases-loop-at l = length l.bytes - l.at
