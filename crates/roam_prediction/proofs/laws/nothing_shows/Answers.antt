use Rattle.roam_prediction.proofs.Epochs.{nothing_shows}
use Rattle.roam_prediction.proofs.laws.nothing_shows.Goals as goal

pub returns : goal.returns
returns c = record { shows = nothing_shows }
