use Rattle.std.proofs.Common.{List, ℕ, ◌++◌, Some, None, sym, ap}
use Rattle.std.specs.Prelude.{codes}
use Rattle.roam_scrollback_stream.specs.declared.requests.Request.TheVariants.{Bytes}
use Rattle.roam_scrollback_stream.proofs.Asking.{counted_found, no_some, same_some, bytes_only}
use Rattle.roam_scrollback_stream.proofs.requests.behind_bytes.Goals as goal

pub returns-in_err-number-clause-only : goal.returns-in_err-number-clause-only
returns-in_err-number-clause-only c =
    bytes_only c.args.text.now None c.from_residual.result c.in_err-number.ensures.counted (λ p e. absurd (no_some p e))

pub returns-clause-found : goal.returns-clause-found
returns-clause-found c =
    let found = counted_found c.args.text.now (c.in_ok-number.number, c.in_ok-number.count) (sym c.in_ok-number.ensures.counted) in
    ((found.0, found.1), ap (λ (t : List ℕ). codes "bytes " ++ t) found.2)

pub returns-clause-only : goal.returns-clause-only
returns-clause-only c =
    let all : ℕ × ℕ = (c.in_ok-number.number, c.in_ok-number.count) in
    bytes_only c.args.text.now (Some all) (Some (Bytes c.in_ok-number.number c.in_ok-number.count)) c.in_ok-number.ensures.counted
    (λ p e. ap (λ (q : ℕ × ℕ). Some (Bytes q.0 q.1)) (same_some all p e))
