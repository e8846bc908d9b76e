use Rattle.std.proofs.Common.{◌≡◌, ◌≤◌, ◌+◌, ◌++◌, ◌-◌, length, drop}
use Rattle.roam_normalize.specs.Renditions.{spelled_out}
use Rattle.roam_normalize.proofs.renditions.push_spelled_out.Given as goal

abbrev pub invariant-loop-at : goal.invariant-loop-at
invariant-loop-at l = (l.at ≤ length l.bytes) × (l.out.items ++ spelled_out (drop l.at l.bytes) ≡ l.fn.out.items ++ spelled_out l.bytes)

abbrev pub decreases-loop-at : goal.decreases-loop-at
decreases-loop-at l = length l.bytes + 1 - l.at
