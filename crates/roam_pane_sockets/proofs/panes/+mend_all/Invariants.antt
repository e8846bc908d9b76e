use Rattle.std.specs.Prelude.{length}
use Rattle.roam_pane_sockets.proofs.panes.+mend_all.Given as goal

abbrev pub decreases-mend_all : goal.decreases-mend_all
decreases-mend_all g l = length l.all.now
