use Rattle.std.proofs.Common.{refl, rules}
use Rattle.std.proofs.Math.Seq.{map-set_same}
use Rattle.roam_sockets.proofs.Turning.{lost_at, queued_at}
use Rattle.roam_sockets.proofs.clients.send_at.Goals as goal

pub returns-clause-queued : goal.returns-clause-queued
returns-clause-queued c = λ h.
    queued_at c.args.all.now c.args.at c.index-all-at.result _ _ c.requires.within (c.send.ensures.queued h)

pub returns-clause-lost : goal.returns-clause-lost
returns-clause-lost c = λ h. lost_at c.args.all.now c.args.at c.index-all-at.result _ c.requires.within (search rules)

pub returns-clause-stays : goal.returns-clause-stays
returns-clause-stays c = map-set_same (λ peer. peer.number) c.args.all.now c.args.at _ c.index-all-at.result refl
