use Rattle.std.proofs.Common.{length}
use Rattle.roam_prediction.proofs.over.+last_column.Given as goal

abbrev pub decreases-last_column : goal.decreases-last_column
decreases-last_column l = length l.predictions.now
