use Rattle.roam_outer_terminal.proofs.Showing.{taken_back}
use Rattle.roam_outer_terminal.proofs.laws.taken_back_is_noted.Goals as goal

pub returns : goal.returns
returns c = record { noted = taken_back }
