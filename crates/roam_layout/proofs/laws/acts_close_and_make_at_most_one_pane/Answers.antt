use Rattle.roam_layout.proofs.Changing.{at_most_one}
use Rattle.roam_layout.proofs.laws.acts_close_and_make_at_most_one_pane.Goals as goal

pub returns-clause-closed : goal.returns-clause-closed
returns-clause-closed c s t act plan e = (at_most_one s t act plan e).0

pub returns-clause-made : goal.returns-clause-made
returns-clause-made c s t act plan e = (at_most_one s t act plan e).1
