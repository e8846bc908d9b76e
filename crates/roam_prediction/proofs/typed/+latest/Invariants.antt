use Rattle.std.proofs.Common.{length}
use Rattle.roam_prediction.proofs.typed.+latest.Given as goal

abbrev pub decreases-latest : goal.decreases-latest
decreases-latest l = length l.predictions.now
