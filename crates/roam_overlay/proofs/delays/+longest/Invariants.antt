use Rattle.std.proofs.Common.{length}
use Rattle.roam_overlay.proofs.delays.+longest.Given as goal

abbrev pub decreases-longest : goal.decreases-longest
decreases-longest l = length l.delays.now
