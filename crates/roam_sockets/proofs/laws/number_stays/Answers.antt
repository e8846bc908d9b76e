use Rattle.std.proofs.Common.{ap, Some, arith}
use Rattle.roam_sockets.proofs.laws.number_stays.Goals as goal

pub returns : goal.returns
returns c = record { stays = λ number small. ap Some (omega arith) }
