use Rattle.std.proofs.Common.{◌≤◌}
use Rattle.roam_scroll_paint.proofs.marks.marked_before.Given as goal

abbrev pub decreases-loop-end : goal.decreases-loop-end
decreases-loop-end l = l.end

abbrev pub invariant-loop-end : goal.invariant-loop-end
invariant-loop-end l = l.end ≤ l.to
