use Rattle.std.proofs.Common.{◌<◌, arith}
use Rattle.roam_sync.specs.Senders.{last_of}
use Rattle.roam_sync.proofs.Sending.{AreAbove-push}
use Rattle.roam_sync.proofs.senders.Sender.offer.Goals as goal

pub invariant_of-self-2 : goal.invariant_of-self-2
invariant_of-self-2 g c =
    let above : (last_of c.self.inside.base c.self.inside.later.items).number < c.args.number = rw (← c.self.view_is) at c.requires.newer in
    (omega (arith, c.in_ok-push.ensures.len), rw c.in_ok-push.ensures.items (AreAbove-push _ _ _ c.self.invariant.1 above))
