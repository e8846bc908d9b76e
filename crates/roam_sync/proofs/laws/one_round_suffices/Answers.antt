use Rattle.roam_sync.proofs.Runs.{round}
use Rattle.roam_sync.proofs.laws.one_round_suffices.Goals as goal

pub returns : goal.returns
returns g c = record { round = round g.S.Synced.applied }
