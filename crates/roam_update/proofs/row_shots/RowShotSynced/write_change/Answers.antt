use Rattle.roam_update.proofs.TableAgain.{leads_two}
use Rattle.roam_update.proofs.row_shots.RowShotSynced.write_change.Goals as goal

pub returns-clause-leads : goal.returns-clause-leads
returns-clause-leads c = leads_two c.args.base.now c.args.self.now c.change_text.ensures.screenshot
