use Rattle.roam_pane_protocol.proofs.MetadataLists.{arrives}
use Rattle.roam_pane_protocol.proofs.laws.metadata_arrives.Goals as goal

pub returns : goal.returns
returns c = record { arrive = arrives }
