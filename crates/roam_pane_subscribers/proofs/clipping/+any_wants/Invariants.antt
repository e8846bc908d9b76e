use Rattle.std.proofs.Common.{length}
use Rattle.roam_pane_subscribers.proofs.clipping.+any_wants.Given as goal

abbrev pub decreases-any_wants : goal.decreases-any_wants
decreases-any_wants g l = length l.all.now
