use Rattle.roam_pane_protocol.proofs.Newest.{asks-newest}
use Rattle.roam_pane_protocol.proofs.laws.queries_are_the_newest.Goals as goal

pub returns : goal.returns
returns c = record { newest = asks-newest }
