use Rattle.std.proofs.Common.{arith, ◌≡◌, Bool, ap, ◌∙◌, sym, subst}
use Rattle.std.specs.Prelude.{Ok, nat_lt, ◌||◌}
use Rattle.std.proofs.lemmas.Result.{err_from_is_err_and}
use Rattle.roam_wire.specs.Datagrams.{datagram_value}
use Rattle.roam_hub.specs.Servers.{ServerView, Stands, Comes, address_of, stop_after}
use Rattle.roam_hub.specs.Records.{answer_to_datagram}
use Rattle.roam_hub.proofs.Sharing.{have_noted}
use Rattle.roam_hub.proofs.Serving.{not_read_datagram, not_admitted, after_none, after_noted}
use Rattle.roam_hub.specs.contracts.servers.Server.{the_view}
use Rattle.roam_hub.proofs.servers.Server.hear.Goals.{then-self, else-self}
use Rattle.roam_hub.proofs.servers.Server.hear.Goals as goal

pub returns-in_err-datagram-clause-heard : goal.returns-in_err-datagram-clause-heard
returns-in_err-datagram-clause-heard c s st =
    let p = err_from_is_err_and c.from_residual.result c.from_residual.ensures.1 in
    rw (p.1, p.2) (not_read_datagram s (address_of c.args.from) c.args.bytes.now c.args.now _ c.args.self.now st
    (λ i. omega (arith, c.type_inv.bytes i)) c.in_err-datagram.ensures.fault c.in_err-datagram.ensures.only)

pub returns-in_err-admit-clause-heard : goal.returns-in_err-admit-clause-heard
returns-in_err-admit-clause-heard c s st =
    let p = err_from_is_err_and c.from_residual-in_err-admit.result c.from_residual-in_err-admit.ensures.1 in
    let found = c.in_ok-datagram.ensures.found in
    rw (p.1, p.2) (subst (λ (v : ServerView). Comes s (address_of c.args.from) c.args.bytes.now c.args.now
    (stop_after c.in_err-admit.field-0.0 0) v)
    c.self.view_is
    (not_admitted _ s (address_of c.args.from) c.args.bytes.now (datagram_value c.in_ok-datagram.datagram) c.args.now _
    (subst (λ (v : ServerView). Stands v s) (sym c.self.view_is) st) (record { is = found.0; spelled = found.1 })
    c.in_err-admit.ensures.err))

pub returns-in_err-taking-clause-heard : goal.returns-in_err-taking-clause-heard
returns-in_err-taking-clause-heard c s st =
    let p = err_from_is_err_and c.from_residual-in_err-taking.result c.from_residual-in_err-taking.ensures.1 in
    let found = c.in_ok-datagram.ensures.found in
    rw (p.1, p.2) (after_none (the_view c.self.inside) s (address_of c.args.from) c.args.bytes.now
    (datagram_value c.in_ok-datagram.datagram)
    c.args.now _ c.hear_in.new.session c.hear_in.new.records.entries
    (subst (λ (v : ServerView). Stands v s) (sym c.self.view_is) st) (record { is = found.0; spelled = found.1 })
    (record { kind = c.in_ok-admit.ensures.kind; session = c.in_ok-admit.ensures.session })
    c.in_err-taking.ensures.session c.in_err-taking.ensures.records c.in_err-taking.ensures.fault)

pub returns-clause-heard : goal.returns-clause-heard
returns-clause-heard c s st =
    let found = c.in_ok-datagram.ensures.found in
    let n = c.in_ok-taking.taking.taken in
    let input : c.if-self.self ≡ (c.self.inside.input || nat_lt 0 c.in_ok-taking.taking.taken) =
    elim c.if-self.branch [
      | then-self w ↦ w.self-is ∙ w.if-self.true ∙ sym (ap (λ b. b || nat_lt 0 c.in_ok-taking.taking.taken) w.if-self.true)
      | else-self w ↦ w.self-is ∙ sym (ap (λ b. b || nat_lt 0 c.in_ok-taking.taking.taken) w.if-self.false)
    ] in
    subst (λ (b : Bool). Comes s (address_of c.args.from) c.args.bytes.now c.args.now (answer_to_datagram (Ok c.in_ok-taking.taking))
    (record (the_view c.self.inside) {
      state = c.hear_in.new.session;
      input = b;
      clock = c.max-moment.result;
      records = c.hear_in.new.records.entries;
    })) (sym input)
    (after_noted (the_view c.self.inside) s (address_of c.args.from) c.args.bytes.now (datagram_value c.in_ok-datagram.datagram) c.args.now
    c.max-moment.result c.in_ok-taking.taking c.hear_in.new.records.entries c.hear_in.new.session
    (subst (λ (v : ServerView). Stands v s) (sym c.self.view_is) st) (record { is = found.0; spelled = found.1 })
    (record { kind = c.in_ok-admit.ensures.kind; session = c.in_ok-admit.ensures.session })
    c.max-moment.ensures c.hear_in.ensures.unique c.in_ok-taking.ensures.noted)

pub invariant_of-self-2 : goal.invariant_of-self-2
invariant_of-self-2 c = (
  c.self.invariant.0,
  c.self.invariant.1,
  have_noted c.self.inside.made c.self.inside.screen c.self.inside.records.entries c.hear_in.new.records.entries c.self.inside.session
      c.hear_in.new.session (datagram_value c.in_ok-datagram.datagram) (address_of c.args.from) c.max-moment.result c.in_ok-taking.taking
      c.in_ok-taking.ensures.noted c.self.invariant.2,
)
