use Rattle.roam_wire.proofs.Cuts.{joined-fragments}
use Rattle.roam_wire.proofs.laws.fragments_join.Goals as goal

pub returns : goal.returns
returns c = record { joined = joined-fragments }
