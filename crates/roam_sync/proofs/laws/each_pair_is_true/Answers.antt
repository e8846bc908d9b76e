use Rattle.roam_sync.proofs.Runs.{each_pair}
use Rattle.roam_sync.proofs.laws.each_pair_is_true.Goals as goal

pub returns : goal.returns
returns g c = record { pairs = each_pair g.S.Synced.applied }
