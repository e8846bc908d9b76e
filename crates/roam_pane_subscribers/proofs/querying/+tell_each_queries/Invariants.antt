use Rattle.std.proofs.Common.{length}
use Rattle.roam_pane_subscribers.proofs.querying.+tell_each_queries.Given as goal

abbrev pub decreases-tell_each_queries : goal.decreases-tell_each_queries
decreases-tell_each_queries g l = length l.all.now
