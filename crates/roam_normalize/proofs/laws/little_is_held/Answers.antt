use Rattle.roam_normalize.proofs.Cutting.{held-short}
use Rattle.roam_normalize.proofs.laws.little_is_held.Goals as goal

pub returns : goal.returns
returns c = record { few = held-short }
