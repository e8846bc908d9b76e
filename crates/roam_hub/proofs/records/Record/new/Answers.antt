use Rattle.std.proofs.Common.{ap}
use Rattle.roam_wire.specs.Gatherers.{GathererValue}
use Rattle.roam_model.specs.Numbers.{first_screen}
use Rattle.roam_hub.specs.Ends.{version_of, sending_of}
use Rattle.roam_hub.proofs.Recording.{new_record}
use Rattle.roam_hub.proofs.records.Record.new.Goals as goal

pub returns-clause-new : goal.returns-clause-new
unfolding first_screen
returns-clause-new c =
    new_record c.args.version (version_of c.in_ok-sender.sender) c.args.watches c.new-2.result.current c.new-3.result
    (sending_of c.in_ok-sender.sender) c.in_ok-sender.ensures.version
    (ap (λ (g : GathererValue). g.current) c.new-2.ensures.new) c.new-3.ensures.start c.in_ok-sender.ensures.first
