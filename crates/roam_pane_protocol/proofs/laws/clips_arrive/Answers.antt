use Rattle.roam_pane_protocol.proofs.Clipped.{arrive}
use Rattle.roam_pane_protocol.proofs.laws.clips_arrive.Goals as goal

pub returns : goal.returns
returns c = record { arrive = arrive }
