use Rattle.std.proofs.Common.{◌≡◌}
use Rattle.roam_pane_sockets.proofs.peers.Peer.take_next.Given as goal

abbrev pub invariant-loop : goal.invariant-loop
invariant-loop l = l.pane_input ≡ l.initial.pane_input
