use Rattle.std.proofs.Common.{length}
use Rattle.roam_pane_sockets.proofs.panes.+any_goes_on.Given as goal

abbrev pub decreases-any_goes_on : goal.decreases-any_goes_on
decreases-any_goes_on l = length l.all.now
