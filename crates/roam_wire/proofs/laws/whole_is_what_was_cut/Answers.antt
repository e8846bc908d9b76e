use Rattle.roam_wire.proofs.Arrive.{of_nothing, well}
use Rattle.roam_wire.proofs.laws.whole_is_what_was_cut.Goals as goal

pub returns : goal.returns
returns c = record { nothing = of_nothing; whole = well }
