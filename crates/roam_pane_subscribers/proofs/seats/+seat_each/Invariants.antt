use Rattle.std.proofs.Common.{length}
use Rattle.roam_pane_subscribers.proofs.seats.+seat_each.Given as goal

abbrev pub decreases-seat_each : goal.decreases-seat_each
decreases-seat_each g l = length l.all.now
