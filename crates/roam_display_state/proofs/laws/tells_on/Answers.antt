use Rattle.roam_display_state.proofs.Leading.{tells_on}
use Rattle.roam_display_state.proofs.laws.tells_on.Goals as goal

pub returns : goal.returns
returns c = record { on = tells_on }
