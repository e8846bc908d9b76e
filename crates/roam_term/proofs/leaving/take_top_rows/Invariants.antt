use Rattle.std.proofs.Common.{◌≡◌}
use Rattle.roam_term.specs.Leaving.{top_rows}
use Rattle.roam_term.specs.Terminal.{with_rows}
use Rattle.roam_term.proofs.leaving.take_top_rows.Given as goal

abbrev pub invariant-loop-i : goal.invariant-loop-i
invariant-loop-i l = l.history ≡ with_rows (top_rows l.i l.grid.screen) l.initial.history
