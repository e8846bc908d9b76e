use Rattle.std.proofs.Common.{◌<◌, ◌+◌, ◌-◌}
use Rattle.roam_scroll_paint.proofs.choice.alike_after.Given as goal

abbrev pub decreases-loop-count : goal.decreases-loop-count
decreases-loop-count g l = l.end - l.count

abbrev pub invariant-loop-count : goal.invariant-loop-count
invariant-loop-count g l = (l.from + l.count < l.end) × (l.row + l.count < l.end)
