use Rattle.std.proofs.Common.{length}
use Rattle.roam_prediction.proofs.seen.+count_right.Given as goal

abbrev pub decreases-count_right : goal.decreases-count_right
decreases-count_right l = length l.predictions.now
