use Rattle.std.proofs.Common.{◌≤◌, length}
use Rattle.roam_scroll_paint.proofs.choice.changed_of.Given as goal

abbrev pub invariant-loop-row : goal.invariant-loop-row
invariant-loop-row l = (l.to ≤ l.row) × (l.from ≤ length l.costs)
