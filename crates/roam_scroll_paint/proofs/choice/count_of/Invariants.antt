use Rattle.std.proofs.Common.{◌≤◌}
use Rattle.roam_scroll_paint.proofs.choice.count_of.Given as goal

abbrev pub invariant-loop-row : goal.invariant-loop-row
invariant-loop-row l = l.count ≤ l.row
