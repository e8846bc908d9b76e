use Rattle.roam_wire.proofs.Texts.{one_up}
use Rattle.roam_wire.proofs.laws.one_up_a_text.Goals as goal

pub returns : goal.returns
returns c = record { one = one_up }
