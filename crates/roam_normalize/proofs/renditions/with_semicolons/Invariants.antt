use Rattle.std.proofs.Common.{◌≡◌, ◌≤◌, ◌++◌, ◌-◌, length, drop}
use Rattle.roam_normalize.specs.Renditions.{with_semicolons}
use Rattle.roam_normalize.proofs.renditions.with_semicolons.Given as goal

abbrev pub invariant-loop-at : goal.invariant-loop-at
invariant-loop-at l = (l.at ≤ length l.bytes) × (l.all.items ++ with_semicolons (drop l.at l.bytes) ≡ with_semicolons l.bytes)

abbrev pub decreases-loop-at : goal.decreases-loop-at
decreases-loop-at l = length l.bytes - l.at
