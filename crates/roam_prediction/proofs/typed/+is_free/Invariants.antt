use Rattle.std.proofs.Common.{length}
use Rattle.roam_prediction.proofs.typed.+is_free.Given as goal

abbrev pub decreases-is_free : goal.decreases-is_free
decreases-is_free l = length l.predictions.now
