use Rattle.std.proofs.Common.{arith}
use Rattle.roam_sync.proofs.Sending.{AreAbove-take}
use Rattle.roam_sync.proofs.senders.Sender.withdraw.Goals as goal

pub invariant_of-self : goal.invariant_of-self
invariant_of-self g c =
    (omega (arith, c.pop.ensures.len), rw c.pop.ensures.rest (AreAbove-take _ _ _ c.self.invariant.1))
