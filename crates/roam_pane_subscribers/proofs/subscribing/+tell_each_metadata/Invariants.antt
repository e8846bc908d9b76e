use Rattle.std.proofs.Common.{length}
use Rattle.roam_pane_subscribers.proofs.subscribing.+tell_each_metadata.Given as goal

abbrev pub decreases-tell_each_metadata : goal.decreases-tell_each_metadata
decreases-tell_each_metadata g l = length l.all.now
