use Rattle.std.proofs.Common.{length}
use Rattle.roam_prediction.proofs.seen.+has_credit.Given as goal

abbrev pub decreases-has_credit : goal.decreases-has_credit
decreases-has_credit l = length l.predictions.now
