use Rattle.roam_hub.specs.Servers.{address_of}
use Rattle.roam_hub.proofs.Watchers.{takes_nothing, leaves_all}
use Rattle.roam_hub.proofs.servers.Server.datagram.Goals as goal

pub returns : goal.returns
returns c =
    record {
      comes = λ s st. rw c.answer.ensures.answer (c.hear.ensures.heard s st);
      watched =
          λ w s st. rw c.answer.ensures.answer (takes_nothing s (address_of c.args.from) c.args.bytes.now c.args.now _ _ w
          (c.hear.ensures.heard s st));
      err = rw c.answer.ensures.answer (leaves_all c.hear.result c.args.self.now c.hear.new.self c.hear.ensures.stops c.hear.ensures.err);
    }
