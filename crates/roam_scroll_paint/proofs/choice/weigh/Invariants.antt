use Rattle.std.proofs.Common.{◌≡◌, length}
use Rattle.roam_scroll_paint.specs.Rows.{KeepsCosts}
use Rattle.roam_scroll_paint.proofs.choice.weigh.Given as goal

abbrev pub invariant-loop-row : goal.invariant-loop-row
invariant-loop-row g l = (length l.costs ≡ length l.initial.costs) × KeepsCosts l.initial.costs l.costs
