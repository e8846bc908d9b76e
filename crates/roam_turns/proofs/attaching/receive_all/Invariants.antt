use Rattle.std.proofs.Common.{◌≡◌, ◌-◌, length}
use Rattle.std.specs.Io.KnownBytes.{Keeps}
use Rattle.roam_turns.specs.Painting.{Follows}
use Rattle.roam_turns.specs.Parts.{ReceivesUpTo, Makes}
use Rattle.roam_turns.specs.Turns.{IsToClient}
use Rattle.roam_turns.proofs.Making.{Until}
use Rattle.roam_turns.proofs.attaching.receive_all.Given as goal

abbrev pub invariant-loop : goal.invariant-loop
invariant-loop g l =
    (length l.buf ≡ 2048)
    × Keeps (g.P.Ports.written l.initial.ports) (g.P.Ports.written l.ports)
    × Follows (g.C.ClientCore.number l.initial.client) (g.C.ClientCore.screen l.initial.client)
    (g.C.ClientCore.number l.client) (g.C.ClientCore.screen l.client)
    × Makes g.C.ClientCore.step (Until (ReceivesUpTo (IsToClient l.now) 2048 32) (ReceivesUpTo (IsToClient l.now) 2048 (32 - l.counter)))
    (g.P.Ports.told l.initial.ports) (g.P.Ports.told l.ports)
    (g.C.ClientCore.made l.initial.client) (g.C.ClientCore.made l.client) l.initial.client l.client
    × (g.P.Ports.notice l.ports ≡ g.P.Ports.notice l.initial.ports)
