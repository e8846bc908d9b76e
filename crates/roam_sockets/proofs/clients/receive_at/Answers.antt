use Rattle.std.proofs.Common.{refl}
use Rattle.std.proofs.Math.Seq.{map-set_same}
use Rattle.roam_sockets.proofs.Counting.{contained}
use Rattle.roam_sockets.proofs.clients.receive_at.Goals as goal

pub returns-in_err-len-clause-stays : goal.returns-in_err-len-clause-stays
returns-in_err-len-clause-stays c = map-set_same (λ peer. peer.number) c.args.all.now c.args.at _ c.index-all-at.result refl

pub returns-clause-stays : goal.returns-clause-stays
returns-clause-stays c = map-set_same (λ peer. peer.number) c.args.all.now c.args.at _ c.index-all-at.result refl

pub returns-in_err-len-clause-queues : goal.returns-in_err-len-clause-queues
returns-in_err-len-clause-queues c =
    map-set_same (λ peer. peer.carrier.queue) c.args.all.now c.args.at _ c.index-all-at.result c.receive.ensures.queue

pub returns-clause-queues : goal.returns-clause-queues
returns-clause-queues c = map-set_same (λ peer. peer.carrier.queue) c.args.all.now c.args.at _ c.index-all-at.result c.receive.ensures.queue

pub returns-clause-from : goal.returns-clause-from
returns-clause-from c = (_, contained c.args.all.now c.args.at c.index-all-at.result c.requires.within c.index-all-at.is, c.address_of.ensures.address)
