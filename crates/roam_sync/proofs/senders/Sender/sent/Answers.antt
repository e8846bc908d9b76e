use Rattle.std.proofs.Common.{arith}
use Rattle.roam_sync.proofs.Sending.{AreAbove-mark, length-mark, number-mark_base}
use Rattle.roam_sync.proofs.senders.Sender.sent.Goals as goal

pub invariant_of-self : goal.invariant_of-self
invariant_of-self g c =
    rw (c.mark_newest.ensures.later, c.mark_newest.ensures.base, number-mark_base c.self.inside.base c.self.inside.later.items)
    (omega (arith, length-mark c.self.inside.later.items, c.self.invariant.0), AreAbove-mark _ _ c.self.invariant.1)
