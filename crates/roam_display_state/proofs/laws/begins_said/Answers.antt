use Rattle.roam_display_state.proofs.Leading.{begins}
use Rattle.roam_display_state.proofs.laws.begins_said.Goals as goal

pub returns : goal.returns
returns c = record { begins = begins }
