use Rattle.std.proofs.Common.{length}
use Rattle.roam_pane_subscribers.proofs.seats.+has_host.Given as goal

abbrev pub decreases-has_host : goal.decreases-has_host
decreases-has_host g l = length l.all.now
