use Rattle.std.proofs.Common.{length}
use Rattle.roam_sockets.proofs.lanes.+send_each.Given as goal

abbrev pub decreases-send_each : goal.decreases-send_each
decreases-send_each g l = length l.lanes.now
