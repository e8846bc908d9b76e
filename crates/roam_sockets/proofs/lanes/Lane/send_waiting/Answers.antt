use Rattle.std.proofs.Common.{rules}
use Rattle.roam_sockets.proofs.Sending.{goes_more, goes_none}
use Rattle.roam_sockets.proofs.lanes.Lane.send_waiting.Goals as goal

pub loop-init : goal.loop-init
loop-init g c = goes_none _ _ _

pub loop-preserved : goal.loop-preserved
loop-preserved g c = goes_more _ _ _ _ _ _ _ c.loop.invariant (c.send_first.ensures.went (search rules))
