use Rattle.roam_sockets.proofs.Turning.{AreOthers}
use Rattle.roam_sockets.proofs.clients.place_of.Given as goal

abbrev pub invariant-loop-at : goal.invariant-loop-at
invariant-loop-at l = AreOthers l.all l.number l.at
