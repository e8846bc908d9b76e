use Rattle.roam_display_state.proofs.Leading.{quiet_on}
use Rattle.roam_display_state.proofs.laws.quiet_on.Goals as goal

pub returns : goal.returns
returns c = record { on = quiet_on }
