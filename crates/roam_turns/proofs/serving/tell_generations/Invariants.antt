use Rattle.std.proofs.Common.{◌-◌}
use Rattle.roam_turns.specs.Parts.{Each, Makes}
use Rattle.roam_turns.specs.Turns.{TellsGeneration}
use Rattle.roam_turns.proofs.Making.{Until}
use Rattle.roam_turns.proofs.serving.tell_generations.Given as goal

abbrev pub invariant-loop-number : goal.invariant-loop-number
invariant-loop-number g l =
    Makes g.C.ServerCore.step (Until (Each TellsGeneration 1 9) (Each TellsGeneration l.number (10 - l.number)))
    (g.P.Ports.told l.initial.ports) (g.P.Ports.told l.ports)
    (g.C.ServerCore.made l.initial.server) (g.C.ServerCore.made l.server) l.initial.server l.server
