use Rattle.roam_sync.proofs.Runs.{numbers_rise, base_shared, updates_lead_on}
use Rattle.roam_sync.proofs.laws.both_ends_agree.Goals as goal

pub returns : goal.returns
returns g c = record {
  rising = numbers_rise g.S.Synced.applied;
  base = base_shared g.S.Synced.applied;
  updates = updates_lead_on g.S.Synced.applied;
}
