use Rattle.roam_hub.specs.Ends.{sending_of}
use Rattle.roam_hub.proofs.Recording.{base_is}
use Rattle.roam_hub.proofs.records.acknowledge.Goals as goal

pub returns-clause-base : goal.returns-clause-base
returns-clause-base c =
    base_is (sending_of c.args.sender.now) (sending_of c.acked.new.self) c.args.number c.args.base.now c.len-held.result c.len.result
    c.base_after.result c.requires.base c.len-held.ensures.value c.acked.ensures.acked c.len.ensures.value c.base_after.ensures.base
