use Rattle.std.proofs.Common.{ℕ, Some, None, ap}
use Rattle.roam_scrollback_stream.specs.declared.requests.Request.TheVariants.{Gone}
use Rattle.roam_scrollback_stream.proofs.Asking.{no_some, same_some, gone_only}
use Rattle.roam_scrollback_stream.proofs.requests.behind_gone.Goals as goal

pub returns-in_err-number_of-clause-only : goal.returns-in_err-number_of-clause-only
returns-in_err-number_of-clause-only c =
    gone_only c.args.text.now None c.from_residual.result c.in_err-number_of.ensures.number (λ p e. absurd (no_some p e))

pub returns-clause-only : goal.returns-clause-only
returns-clause-only c =
    let n = c.in_ok-number_of.field-0 in
    gone_only c.args.text.now (Some n) (Some (Gone n)) c.in_ok-number_of.ensures.number
    (λ p e. ap (λ (m : ℕ). Some (Gone m)) (same_some n p e))
