use Rattle.std.proofs.Common.{length}
use Rattle.roam_prediction.proofs.seen.+is_way.Given as goal

abbrev pub decreases-is_way : goal.decreases-is_way
decreases-is_way l = length l.predictions.now
