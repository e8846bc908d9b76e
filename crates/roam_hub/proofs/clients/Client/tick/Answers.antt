use Rattle.std.proofs.Common.{◌≡◌, ℕ, max, ◌∙◌, ap, sym, subst, false, arith, map}
use Rattle.std.specs.Prelude.{Err}
use Rattle.std.proofs.lemmas.Result.{err_from_is_err_and}
use Rattle.roam_wire.specs.Datagrams.{datagram_text}
use Rattle.roam_model.specs.Sendings.{is_client_due, is_client_spent, last_waiting, datagrams_from}
use Rattle.roam_hub.specs.Clients.{ClientView}
use Rattle.roam_hub.specs.contracts.clients.Client.{the_view}
use Rattle.roam_hub.proofs.StartSending.{sent_alike, not_due, not_sent, all_sent, as_many, fits_on}
use Rattle.roam_hub.proofs.clients.Client.tick.Goals as goal

pub returns-then-not-is_due-clause-sent : goal.returns-then-not-is_due-clause-sent
returns-then-not-is_due-clause-sent c =
    sent_alike c.self.view_is
    (not_due (the_view c.self.inside) c.args.now c.max-moment.result c.is_due.result c.new.result c.max-moment.ensures
    (c.is_due.ensures.due ∙ ap (λ (v : ClientView). is_client_due v.kept c.max-moment.result) (sym c.self.view_is))
    c.if-not-is_due.true c.new.ensures.items)

pub returns-in_err-datagrams-clause-sent : goal.returns-in_err-datagrams-clause-sent
returns-in_err-datagrams-clause-sent c =
    let p = err_from_is_err_and c.from_residual.result c.from_residual.ensures.1 in
    rw (p.1, p.2) (not_sent c.args.self.now c.args.now c.max-moment.result c.is_due.result _
    (c.max-moment.ensures ∙ ap (λ (v : ClientView). max c.args.now v.kept.clock) c.self.view_is) c.is_due.ensures.due c.if-not-is_due.false
    c.in_err-datagrams.ensures.fault (λ e. c.in_err-datagrams.ensures.memory (ap (λ f. Err f) e)))

pub invariant_of-self-2 : goal.invariant_of-self-2
invariant_of-self-2 c =
    let view = c.args.self.now in
    let fits = fits_on view.kept c.in_ok-datagrams.ensures.fit in
    let more = fits.0 in
    let past = fits.1 in
    let many = as_many view.session view.id view.kept c.in_ok-datagrams.datagrams c.in_ok-datagrams.ensures.written in
    let before = ap (λ (v : ClientView). v.kept.datagrams) c.self.view_is in
    let count = ap (λ (v : ClientView). v.kept.instructions) c.self.view_is in (
      c.self.invariant.0,
      omega (arith, past, many, before, c.len.ensures),
      omega (arith, more, count),
      c.self.invariant.3,
      c.self.invariant.4,
      c.self.invariant.5,
      c.self.invariant.6,
    )

pub returns-clause-sent : goal.returns-clause-sent
returns-clause-sent c =
    sent_alike c.self.view_is
    (all_sent (the_view c.self.inside) c.args.now c.max-moment.result c.is_due.result c.in_ok-datagrams.datagrams
    c.max-self-inside.result c.len.result c.max-moment.ensures
    (c.is_due.ensures.due ∙ ap (λ (v : ClientView). is_client_due v.kept c.max-moment.result) (sym c.self.view_is)) c.if-not-is_due.false
    (subst (λ (v : ClientView). is_client_spent v.kept ≡ false) (sym c.self.view_is) c.in_ok-datagrams.ensures.fit)
    (c.in_ok-datagrams.ensures.written
    ∙ ap (λ (v : ClientView). map datagram_text (datagrams_from v.session v.id v.kept)) (sym c.self.view_is))
    (c.max-self-inside.ensures ∙ ap (λ (x : ℕ). max c.self.inside.sent_act x)
    (c.last_waiting.ensures.last ∙ ap (λ (v : ClientView). last_waiting v.kept) (sym c.self.view_is)))
    (omega (arith, c.len.ensures)))
