use Rattle.roam_terminal_input.proofs.Fronts.{first_is_ended}
use Rattle.roam_terminal_input.proofs.laws.first_is_ended.Goals as goal

pub returns : goal.returns
returns c = record { ended = first_is_ended }
