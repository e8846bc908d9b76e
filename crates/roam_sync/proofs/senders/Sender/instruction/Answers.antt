use Rattle.roam_sync.proofs.Sending.{not_below_base}
use Rattle.roam_sync.proofs.senders.Sender.instruction.Goals as goal

pub returns-clause-rises : goal.returns-clause-rises
returns-clause-rises g c =
    rw (c.newest_of-top.ensures.newest, c.as_slice.ensures.value)
    (not_below_base c.self.inside.base c.self.inside.later.items c.self.invariant.1)
