use Rattle.roam_shared_client_laws.proofs.Traces.{lines_are_typed}
use Rattle.roam_shared_client_laws.proofs.laws.lines_are_typed.Goals as goal

pub returns : goal.returns
returns g c = record { typed = lines_are_typed g.S.Read.remaining g.S.Write.contents }
