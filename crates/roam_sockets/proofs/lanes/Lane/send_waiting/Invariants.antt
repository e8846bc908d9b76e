use Rattle.std.proofs.Common.{◌-◌}
use Rattle.roam_sockets.specs.Lanes.{Goes}
use Rattle.roam_sockets.specs.Pace.{gone_at, most_a_moment}
use Rattle.roam_sockets.proofs.lanes.Lane.send_waiting.Given as goal

abbrev pub invariant-loop : goal.invariant-loop
invariant-loop g l = Goes l.now l.initial.self l.self (g.D.DatagramSocket.handed l.initial.socket) (g.D.DatagramSocket.handed l.socket)

abbrev pub decreases-loop : goal.decreases-loop
decreases-loop g l = most_a_moment - gone_at l.self.pace l.now
