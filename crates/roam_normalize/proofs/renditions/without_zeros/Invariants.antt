use Rattle.std.proofs.Common.{◌≡◌, ◌≤◌, ◌-◌, length, drop}
use Rattle.roam_normalize.specs.Renditions.{without_zeros}
use Rattle.roam_normalize.proofs.renditions.without_zeros.Given as goal

abbrev pub invariant-loop-at : goal.invariant-loop-at
invariant-loop-at l = (l.at ≤ length l.number) × (without_zeros l.number ≡ without_zeros (drop l.at l.number))

abbrev pub decreases-loop-at : goal.decreases-loop-at
decreases-loop-at l = length l.number - l.at
