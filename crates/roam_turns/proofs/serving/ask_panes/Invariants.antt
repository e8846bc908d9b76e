use Rattle.std.proofs.Common.{◌-◌}
use Rattle.roam_turns.specs.Parts.{Each, Makes}
use Rattle.roam_turns.specs.Turns.{AsksPane}
use Rattle.roam_turns.proofs.Making.{Until}
use Rattle.roam_turns.proofs.serving.ask_panes.Given as goal

abbrev pub invariant-loop-pane : goal.invariant-loop-pane
invariant-loop-pane g l =
    Makes g.C.ServerCore.step (Until (Each AsksPane 1 9) (Each AsksPane l.pane (10 - l.pane)))
    (g.P.Ports.told l.initial.ports) (g.P.Ports.told l.ports)
    (g.C.ServerCore.made l.initial.server) (g.C.ServerCore.made l.server) l.initial.server l.server
