use Rattle.roam_sync.proofs.Runs.{no_gap, no_bad_change, no_ninth}
use Rattle.roam_sync.proofs.laws.each_update_is_welcome.Goals as goal

pub returns : goal.returns
returns g c = record { gap = no_gap g.S.Synced.applied; change = no_bad_change g.S.Synced.applied; ninth = no_ninth g.S.Synced.applied }
