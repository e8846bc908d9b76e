use Rattle.std.proofs.Common.{length}
use Rattle.roam_prediction.proofs.seen.+last_of.Given as goal

abbrev pub decreases-last_of : goal.decreases-last_of
decreases-last_of l = length l.predictions.now
