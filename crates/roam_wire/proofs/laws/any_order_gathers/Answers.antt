use Rattle.roam_wire.proofs.Arrive.{answers}
use Rattle.roam_wire.proofs.laws.any_order_gathers.Goals as goal

pub returns : goal.returns
returns c = record { answers = answers }
