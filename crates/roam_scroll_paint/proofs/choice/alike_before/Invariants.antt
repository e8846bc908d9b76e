use Rattle.std.proofs.Common.{◌≤◌, ◌+◌, ◌-◌}
use Rattle.roam_scroll_paint.proofs.choice.alike_before.Given as goal

abbrev pub decreases-loop-count : goal.decreases-loop-count
decreases-loop-count g l = l.row - l.count

abbrev pub invariant-loop-count : goal.invariant-loop-count
invariant-loop-count g l = (l.first + l.count ≤ l.from) × (l.first + l.count ≤ l.row)
