use Rattle.std.proofs.Common.{arith, ℕ, refl, sym, ap, ◌∙◌, subst, List, Option}
use Rattle.std.specs.Prelude.{Err, unwrap_or}
use Rattle.std.proofs.lemmas.Result.{err_from_is_err_and}
use Rattle.roam_wire.specs.Datagrams.{datagram_value}
use Rattle.roam_wire.specs.Gatherers.{GathererValue, Gathering, Part, Old}
use Rattle.roam_hub.specs.Ends.{version_in, receiving_in}
use Rattle.roam_hub.specs.Clients.{ClientView, Delivered, NotDelivered, Hears, refused}
use Rattle.roam_hub.specs.contracts.clients.Client.{the_view}
use Rattle.roam_hub.specs.declared.clients.Heard.TheVariants as heard
use Rattle.roam_hub.proofs.Hearing.{heard_alike, not_datagram, not_gathered, fragment_heard, not_delivered, is_sent_to, acts_acked, delivered_number}
use Rattle.roam_hub.proofs.clients.Client.datagram.Goals as goal

pub returns-in_err-datagram-clause-heard : goal.returns-in_err-datagram-clause-heard
returns-in_err-datagram-clause-heard c =
    let p = err_from_is_err_and c.from_residual.result c.from_residual.ensures.1 in
    rw (p.1, p.2) (not_datagram c.args.self.now c.args.bytes.now c.args.now _ (λ i. omega (arith, c.type_inv.bytes i))
    c.in_err-datagram.ensures.fault c.in_err-datagram.ensures.only)

pub returns-in_err-admit-clause-heard : goal.returns-in_err-admit-clause-heard
returns-in_err-admit-clause-heard c =
    let p = err_from_is_err_and c.from_residual-in_err-admit.result c.from_residual-in_err-admit.ensures.1 in
    let found = c.in_ok-datagram.ensures.found in
    rw (p.1, p.2) (subst (λ (v : ClientView). Hears v c.args.bytes.now c.args.now (Err c.in_err-admit.field-0.0) v) c.self.view_is
    (refused (datagram_value c.in_ok-datagram.datagram) _ (record { is = found.0; spelled = found.1 })
    (c.in_err-admit.ensures.err (the_view c.self.inside).kept (sym c.version.ensures.version)) refl refl))

pub returns-in_err-take-clause-heard : goal.returns-in_err-take-clause-heard
returns-in_err-take-clause-heard c =
    let p = err_from_is_err_and c.from_residual-in_err-take.result c.from_residual-in_err-take.ensures.1 in
    let found = c.in_ok-datagram.ensures.found in
    rw (p.1, p.2) (heard_alike c.self.view_is
    (not_gathered (the_view c.self.inside) c.args.bytes.now c.args.now (datagram_value c.in_ok-datagram.datagram) _
    c.take.new.self.current (record { is = found.0; spelled = found.1 })
    (c.in_ok-admit.ensures.ok (the_view c.self.inside).kept (sym c.version.ensures.version)) c.in_err-take.ensures.fault
    (λ e. c.in_err-take.ensures.bad.0 (ap (λ f. Err f) e)) (ap (λ (g : GathererValue). g.current) c.in_err-take.ensures.err)))

pub returns-in-Part-clause-heard : goal.returns-in-Part-clause-heard
returns-in-Part-clause-heard c =
    let found = c.in_ok-datagram.ensures.found in
    heard_alike c.self.view_is
    (fragment_heard (the_view c.self.inside) c.args.bytes.now c.args.now (datagram_value c.in_ok-datagram.datagram) heard.Part Part
    c.take.new.self.current c.max-moment.result (record { is = found.0; spelled = found.1 })
    (c.in_ok-admit.ensures.ok (the_view c.self.inside).kept (sym c.version.ensures.version))
    (rw c.in-Part.is at c.in_ok-take.ensures.answer) refl c.max-moment.ensures)

pub returns-in-Old-clause-heard : goal.returns-in-Old-clause-heard
returns-in-Old-clause-heard c =
    let found = c.in_ok-datagram.ensures.found in
    heard_alike c.self.view_is
    (fragment_heard (the_view c.self.inside) c.args.bytes.now c.args.now (datagram_value c.in_ok-datagram.datagram) heard.Old Old
    c.take.new.self.current c.max-moment.result (record { is = found.0; spelled = found.1 })
    (c.in_ok-admit.ensures.ok (the_view c.self.inside).kept (sym c.version.ensures.version))
    (rw c.in-Old.is at c.in_ok-take.ensures.answer) refl c.max-moment.ensures)

pub returns-in-Err-clause-heard : goal.returns-in-Err-clause-heard
returns-in-Err-clause-heard c =
    let found = c.in_ok-datagram.ensures.found in
    let back = ap (λ (g : GathererValue). g.current) c.untake.ensures.untaken
    ∙ ap (λ (g : Option Gathering). unwrap_or g c.take.new.self.current) c.in_ok-take.ensures.before in
    heard_alike c.self.view_is
    (not_delivered (the_view c.self.inside) c.args.bytes.now c.args.now (datagram_value c.in_ok-datagram.datagram) c.in-Err.fault
    c.in-Whole.text.items c.take.new.self.current c.untake.new.self.current (version_in c.deliver.new.receiver) c.deliver.new.acts
    (receiving_in c.deliver.new.receiver) (record { is = found.0; spelled = found.1 })
    (c.in_ok-admit.ensures.ok (the_view c.self.inside).kept (sym c.version.ensures.version))
    (rw c.in-Whole.is at c.in_ok-take.ensures.answer)
    (subst (λ (text : List ℕ). NotDelivered (version_in c.self.inside.receiver) text (receiving_in c.self.inside.receiver) c.in-Err.fault)
    c.as_slice.ensures.value c.in-Err.ensures.fault)
    back c.deliver.ensures.version c.in-Err.ensures.acts (ap receiving_in c.in-Err.ensures.receiver))

pub invariant_of-self-in-Ok : goal.invariant_of-self-in-Ok
invariant_of-self-in-Ok c =
    let delivered = c.in-Ok.ensures.delivered in (
      acts_acked c.self.inside.acts c.deliver.new.acts delivered.value.acked delivered.acts c.self.invariant.0,
      c.self.invariant.1,
      c.self.invariant.2,
      delivered_number _ _ _ _ _ _ _ _ delivered c.self.invariant.3,
      c.self.invariant.4,
      c.self.invariant.5,
      (λ w. c.deliver.ensures.version ∙ c.self.invariant.6 w),
    )

pub returns-clause-heard : goal.returns-clause-heard
returns-clause-heard c =
    let found = c.in_ok-datagram.ensures.found in
    heard_alike c.self.view_is
    (is_sent_to (the_view c.self.inside) c.args.bytes.now c.args.now (datagram_value c.in_ok-datagram.datagram) c.heard_of.result
    c.in-Whole.text.items c.take.new.self.current c.in-Ok.step c.in-Ok.newer (version_in c.deliver.new.receiver) c.deliver.new.acts
    (receiving_in c.deliver.new.receiver) c.owed_after-self-inside.result c.max-moment.result
    (record { is = found.0; spelled = found.1 }) (c.in_ok-admit.ensures.ok (the_view c.self.inside).kept (sym c.version.ensures.version))
    (rw c.in-Whole.is at c.in_ok-take.ensures.answer)
    (subst (λ (text : List ℕ). Delivered (version_in c.self.inside.receiver) text c.self.inside.acts (receiving_in c.self.inside.receiver)
    c.in-Ok.step c.in-Ok.newer c.deliver.new.acts (receiving_in c.deliver.new.receiver)) c.as_slice.ensures.value c.in-Ok.ensures.delivered)
    c.heard_of.ensures.heard c.deliver.ensures.version c.owed_after-self-inside.ensures.owed c.max-moment.ensures)
