use Rattle.std.proofs.Common.{◌≡◌, ◌∙◌, ◌++◌, map, sym, subst, true, arith}
use Rattle.roam_wire.specs.Cutting.{texts_of}
use Rattle.roam_hub.specs.Servers.{RecordView, parcels_of}
use Rattle.roam_hub.specs.Records.{is_sent_to}
use Rattle.roam_hub.proofs.Addressing.{addressed, sent_fragments, sent_parcels}
use Rattle.roam_hub.proofs.records.Record.send.Goals as goal

pub returns-clause-fragments : goal.returns-clause-fragments
returns-clause-fragments c =
    let due = sym c.is_sent_to.ensures.sent_to ∙ c.if-not-is_sent_to.false in
    let now : is_sent_to c.args.self.now c.args.news.now ≡ true =
    subst (λ (v : RecordView). is_sent_to v c.args.news.now ≡ true) c.self.view_is due in
    sent_fragments c.args.news.session c.args.client c.args.self.now c.args.news.now c.len-fragments.result c.in_ok-texts.texts.items
    c.in_ok-texts.ensures.written (omega (arith, c.len-fragments.ensures)) now

pub returns-clause-parcels : goal.returns-clause-parcels
returns-clause-parcels c =
    let due = sym c.is_sent_to.ensures.sent_to ∙ c.if-not-is_sent_to.false in
    let now : is_sent_to c.args.self.now c.args.news.now ≡ true =
    subst (λ (v : RecordView). is_sent_to v c.args.news.now ≡ true) c.self.view_is due in
    sent_parcels c.args.news.session c.args.client c.args.self.now c.args.news.now c.in_ok-texts.texts.items
    (parcels_of c.args.parcels.now.items) (parcels_of c.address.new.parcels.items) c.in_ok-texts.ensures.written now
    (subst (λ (v : RecordView). parcels_of c.address.new.parcels.items ≡ parcels_of c.args.parcels.now.items
    ++ map (addressed v.address) (texts_of c.in_ok-texts.texts.items)) c.self.view_is c.in_ok-address.ensures.parcels)
