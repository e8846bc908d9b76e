use Rattle.std.proofs.Common.{length}
use Rattle.roam_pane_subscribers.proofs.seats.+any_new.Given as goal

abbrev pub decreases-any_new : goal.decreases-any_new
decreases-any_new g l = length l.all.now
