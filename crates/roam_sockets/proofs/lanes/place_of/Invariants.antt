use Rattle.roam_sockets.proofs.Sending.{AreOthers}
use Rattle.roam_sockets.proofs.lanes.place_of.Given as goal

abbrev pub invariant-loop-at : goal.invariant-loop-at
invariant-loop-at l = AreOthers l.lanes l.to l.at
