use Rattle.std.proofs.Common.{◌∙◌, List, ℕ, ap, sym}
use Rattle.std.specs.Prelude.{Err}
use Rattle.roam_model.specs.Versions.{applied_by}
use Rattle.roam_hub.specs.Ends.{version_in, receiving_in}
use Rattle.roam_wire.specs.Instructions.{down_value}
use Rattle.std.proofs.lemmas.Result.{err_from_is_err_and}
use Rattle.roam_hub.proofs.Hearing.{text_unread, text_refused}
use Rattle.roam_hub.proofs.clients.deliver.Goals as goal

pub returns-in_err-down-clause-fault : goal.returns-in_err-down-clause-fault
returns-in_err-down-clause-fault c =
    let p = err_from_is_err_and c.from_residual.result c.from_residual.ensures.1 in
    rw (p.1, p.2) (text_unread (version_in c.args.receiver.now) c.args.text.now (receiving_in c.args.receiver.now) _ c.in_err-down.ensures.fault c.in_err-down.ensures.only)

pub returns-in_err-step-clause-fault : goal.returns-in_err-step-clause-fault
returns-in_err-step-clause-fault c =
    let p = err_from_is_err_and c.from_residual-in_err-step.result c.from_residual-in_err-step.ensures.1 in
    let found = c.in_ok-down.ensures.found in
    rw (p.1, p.2) (text_refused (version_in c.args.receiver.now) c.args.text.now (receiving_in c.args.receiver.now) (down_value c.in_ok-down.down) _
    (record { is = found.0; spelled = found.1 }) c.in_err-step.ensures.only c.in_err-step.ensures.fault
    (λ e base held. ap (λ (change : List ℕ). applied_by (version_in c.args.receiver.now) base change) (sym c.as_slice.ensures.value)
    ∙ c.in_err-step.ensures.bad (ap (λ f. Err f) e) base held))
