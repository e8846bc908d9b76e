use Rattle.std.proofs.Common.{◌≡◌, ◌≤◌, ◌+◌, ◌-◌, length, drop}
use Rattle.roam_normalize.specs.Renditions.{has_lines}
use Rattle.roam_normalize.proofs.renditions.has_lines.Given as goal

abbrev pub invariant-loop-rest : goal.invariant-loop-rest
invariant-loop-rest l = (l.at ≤ length l.bytes) × (has_lines (drop l.at l.bytes) ≡ has_lines l.bytes)

abbrev pub decreases-loop-rest : goal.decreases-loop-rest
decreases-loop-rest l = length l.bytes + 1 - l.at
