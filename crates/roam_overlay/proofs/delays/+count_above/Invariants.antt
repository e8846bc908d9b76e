use Rattle.std.proofs.Common.{length}
use Rattle.roam_overlay.proofs.delays.+count_above.Given as goal

abbrev pub decreases-count_above : goal.decreases-count_above
decreases-count_above l = length l.delays.now
