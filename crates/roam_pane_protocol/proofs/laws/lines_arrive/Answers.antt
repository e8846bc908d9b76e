use Rattle.roam_pane_protocol.proofs.Subscribing.{arrive}
use Rattle.roam_pane_protocol.proofs.laws.lines_arrive.Goals as goal

pub returns : goal.returns
returns c = record { arrive = arrive }
