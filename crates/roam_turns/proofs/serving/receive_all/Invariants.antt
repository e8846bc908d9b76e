use Rattle.std.proofs.Common.{◌≡◌, ◌-◌, length}
use Rattle.roam_turns.specs.Parts.{ReceivesUpTo, Makes}
use Rattle.roam_turns.specs.Turns.{IsToServer}
use Rattle.roam_turns.proofs.Making.{Until}
use Rattle.roam_turns.proofs.serving.receive_all.Given as goal

abbrev pub invariant-loop : goal.invariant-loop
invariant-loop g l =
    (length l.buf ≡ 2048)
    × Makes g.C.ServerCore.step (Until (ReceivesUpTo (IsToServer l.now) 2048 32) (ReceivesUpTo (IsToServer l.now) 2048 (32 - l.counter)))
    (g.P.Ports.told l.initial.ports) (g.P.Ports.told l.ports)
    (g.C.ServerCore.made l.initial.server) (g.C.ServerCore.made l.server) l.initial.server l.server
