use Rattle.std.proofs.Common.{length}
use Rattle.roam_pane_subscribers.proofs.seats.+first_stay.Given as goal

abbrev pub decreases-first_stay : goal.decreases-first_stay
decreases-first_stay g l = length l.all.now
