use Rattle.roam_wire.proofs.Heads.{one_datagram}
use Rattle.roam_wire.proofs.laws.one_datagram_a_text.Goals as goal

pub returns : goal.returns
returns c = record { one = one_datagram }
