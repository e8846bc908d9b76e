use Rattle.std.proofs.Common.{refl, sym, ap, ◌∙◌, ℕ}
use Rattle.std.proofs.lemmas.Result.{IfOk-weaker, MatchResult-weaker, err_from_is_err_and}
use Rattle.indexmap.specs.IndexMap.{IndexMap}
use Rattle.roam_wire.specs.Datagrams.{datagram_value}
use Rattle.roam_hub.specs.Servers.{RecordView, address_of}
use Rattle.roam_hub.specs.Records.{first_record, full}
use Rattle.roam_hub.proofs.Recording.{with_both, few_alike, many_alike, noted_known, noted_added, known_not_noted, new_not_noted, set_same}
use Rattle.roam_hub.proofs.known.hear_in.Goals as goal

pub returns-in-Some-clause-noted : goal.returns-in-Some-clause-noted
returns-in-Some-clause-noted c =
    IfOk-weaker c.hear.result _ _
    (λ t both. noted_known c.args.datagram.now.client c.args.records.now.entries _ c.in-Some.record.now c.hear.new.self c.args.session.now
    c.hear.new.session (datagram_value c.args.datagram.now) (address_of c.args.from) c.args.now t refl (sym c.in-Some.ensures.value)
    (c.get_mut.follows.holds c.hear.new.self).0 both.0 both.1)
    (with_both c.hear.result _ _ c.hear.ensures.noted c.hear.ensures.fits)

pub returns-in-Some-clause-fault : goal.returns-in-Some-clause-fault
returns-in-Some-clause-fault c =
    MatchResult-weaker c.hear.result c.hear.ensures.fault (λ t x. x)
    (λ fault none. known_not_noted c.args.datagram.now.client c.args.records.now.entries c.in-Some.record.now
    (datagram_value c.args.datagram.now) fault refl (sym c.in-Some.ensures.value) none)

pub returns-in-Some-clause-records : goal.returns-in-Some-clause-records
returns-in-Some-clause-records c =
    MatchResult-weaker c.hear.result c.hear.ensures.err (λ t x. x)
    (λ fault same. (c.get_mut.follows.holds c.hear.new.self).0
    ∙ set_same c.args.datagram.now.client c.args.records.now.entries c.in-Some.record.now c.hear.new.self
    (sym c.in-Some.ensures.value) same)

pub returns-in_err-taking-clause-fault : goal.returns-in_err-taking-clause-fault
returns-in_err-taking-clause-fault c =
    let p = err_from_is_err_and c.from_residual-in_err-taking.result c.from_residual-in_err-taking.ensures.1 in
    let same = ap (λ (m : IndexMap ℕ RecordView _). m.entries) c.get_mut.follows.holds-at-none in
    rw (p.1, p.2) (new_not_noted c.args.records.now.entries c.in_ok-record.record (datagram_value c.args.datagram.now) _
    (sym c.in_default.ensures.value)
    (few_alike _ _ _ _ _ _ c.alike.ensures.count c.most.ensures.most same c.is_watching-watches.ensures.watching
    c.if-alike-most.false)
    (c.in_ok-record.ensures.new ∙ ap (first_record c.args.datagram.now.version) c.is_watching-watches.ensures.watching)
    c.in_err-taking.ensures.fault)

pub returns-clause-noted : goal.returns-clause-noted
returns-clause-noted c =
    let same = ap (λ (m : IndexMap ℕ RecordView _). m.entries) c.get_mut.follows.holds-at-none in
    noted_added c.args.records.now.entries c.reserve.new.self.entries c.insert.new.self.entries c.in_ok-record.record c.hear-2.new.self
    c.args.session.now c.hear-2.new.session (datagram_value c.args.datagram.now) (address_of c.args.from) c.args.now c.in_ok-taking.taking
    (sym c.in_default.ensures.value)
    (few_alike _ _ _ _ _ _ c.alike.ensures.count c.most.ensures.most same c.is_watching-watches.ensures.watching
    c.if-alike-most.false)
    (c.in_ok-record.ensures.new ∙ ap (first_record c.args.datagram.now.version) c.is_watching-watches.ensures.watching)
    (c.reserve.ensures.entries ∙ same) (rw c.unwrap.ensures at c.insert.ensures.entries) c.in_ok-taking.ensures.noted

pub returns-then-alike-most-clause-fault : goal.returns-then-alike-most-clause-fault
returns-then-alike-most-clause-fault c =
    let same = ap (λ (m : IndexMap ℕ RecordView _). m.entries) c.get_mut.follows.holds-at-none in
    full (sym c.in_default.ensures.value)
    (many_alike _ _ _ _ _ _ c.alike.ensures.count c.most.ensures.most same c.is_watching-watches.ensures.watching
    c.if-alike-most.true) refl
