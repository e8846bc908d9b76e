use Rattle.roam_update.proofs.OldMakes.{leads_one}
use Rattle.roam_update.proofs.old_shots.RowShot1Synced.write_change.Goals as goal

pub returns-clause-leads : goal.returns-clause-leads
returns-clause-leads c = leads_one c.args.base.now c.args.self.now c.shot-2.ensures.old
