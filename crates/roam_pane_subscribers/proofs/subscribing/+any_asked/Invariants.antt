use Rattle.std.proofs.Common.{length}
use Rattle.roam_pane_subscribers.proofs.subscribing.+any_asked.Given as goal

abbrev pub decreases-any_asked : goal.decreases-any_asked
decreases-any_asked g l = length l.all.now
