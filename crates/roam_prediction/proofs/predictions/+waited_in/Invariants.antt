use Rattle.std.proofs.Common.{length}
use Rattle.roam_prediction.proofs.predictions.+waited_in.Given as goal

abbrev pub decreases-waited_in : goal.decreases-waited_in
decreases-waited_in l = length l.predictions.now
