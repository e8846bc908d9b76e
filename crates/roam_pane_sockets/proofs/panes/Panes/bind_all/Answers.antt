use Rattle.roam_pane_sockets.proofs.Bound.{one_more}
use Rattle.roam_pane_sockets.proofs.panes.Panes.bind_all.Goals as goal

pub loop-number-preserved : goal.loop-number-preserved
loop-number-preserved g c =
    rw (c.in_ok-add.ensures.items)
    (one_more c.args.folder.now c.args.normalize c.loop-number.number c.loop-number.self.all.items c.in_ok-pane.pane c.loop-number.invariant
    c.in_ok-pane.ensures.path c.in_ok-pane.ensures.none c.in_ok-pane.ensures.fresh)
