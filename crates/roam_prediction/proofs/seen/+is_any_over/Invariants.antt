use Rattle.std.proofs.Common.{length}
use Rattle.roam_prediction.proofs.seen.+is_any_over.Given as goal

abbrev pub decreases-is_any_over : goal.decreases-is_any_over
decreases-is_any_over l = length l.predictions.now
