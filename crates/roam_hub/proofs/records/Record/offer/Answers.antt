use Rattle.std.proofs.Common.{◌≡◌, subst}
use Rattle.roam_hub.specs.Ends.{version_of, sending_of}
use Rattle.roam_hub.specs.Servers.{RecordView}
use Rattle.roam_hub.specs.Records.{held_record}
use Rattle.roam_hub.specs.contracts.records.Record.{the_view}
use Rattle.roam_hub.proofs.Addressing.{not_held, held_now}
use Rattle.roam_hub.proofs.records.Record.offer.Goals as goal

pub returns-then-not-may_be_offered-clause-held : goal.returns-then-not-may_be_offered-clause-held
returns-then-not-may_be_offered-clause-held c =
    subst (λ (v : RecordView). v ≡ held_record v c.args.number c.args.screen.now c.args.now) c.self.view_is
    (not_held (the_view c.self.inside) c.args.number c.args.screen.now c.args.now c.may_be_offered.result c.may_be_offered.ensures.offered
    c.if-not-may_be_offered.true)

pub returns-clause-held : goal.returns-clause-held
returns-clause-held c =
    subst (λ (v : RecordView). record (the_view c.self.inside) { version = version_of c.offer.new.self; sender = sending_of c.offer.new.self }
    ≡ held_record v c.args.number c.args.screen.now c.args.now)
    c.self.view_is
    (held_now (the_view c.self.inside) c.args.number c.args.screen.now c.args.now c.may_be_offered.result (version_of c.offer.new.self)
    (sending_of c.offer.new.self) c.offer.ensures.version
    c.may_be_offered.ensures.offered c.if-not-may_be_offered.false c.in_ok-offer.ensures.ok)
