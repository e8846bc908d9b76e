use Rattle.roam_shared_client_laws.proofs.Leading.{paintings_lead}
use Rattle.roam_shared_client_laws.proofs.laws.paintings_lead.Goals as goal

pub returns : goal.returns
returns g c = record { leads = paintings_lead g.S.Read.remaining g.S.Write.contents }
