use Rattle.roam_pane_sockets.proofs.Bound.{AreBound}
use Rattle.roam_pane_sockets.proofs.panes.Panes.bind_all.Given as goal

abbrev pub invariant-loop-number : goal.invariant-loop-number
invariant-loop-number g l = AreBound l.folder l.normalize l.number l.self.all.items
