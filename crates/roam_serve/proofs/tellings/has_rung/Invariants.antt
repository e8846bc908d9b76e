use Rattle.std.proofs.Common.{◌≡◌, ◌-◌}
use Rattle.roam_serve.specs.Tellings.{has_rung}
use Rattle.roam_serve.proofs.tellings.has_rung.Given as goal

abbrev pub invariant-loop-pane : goal.invariant-loop-pane
invariant-loop-pane l = l.rung ≡ has_rung (l.pane - 1) l.shown l.now
