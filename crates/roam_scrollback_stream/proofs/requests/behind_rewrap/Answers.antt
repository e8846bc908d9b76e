use Rattle.std.proofs.Common.{List, ℕ, ◌++◌, Some, None, sym, ap}
use Rattle.std.specs.Prelude.{codes}
use Rattle.roam_scrollback_stream.specs.declared.requests.Request.TheVariants.{Rewrap}
use Rattle.roam_scrollback_stream.proofs.Asking.{sized_found, no_some, same_some, rewrap_only}
use Rattle.roam_scrollback_stream.proofs.requests.behind_rewrap.Goals as goal

pub returns-in_err-number-clause-only : goal.returns-in_err-number-clause-only
returns-in_err-number-clause-only c =
    rewrap_only c.args.text.now None c.from_residual.result c.in_err-number.ensures.sized (λ p e. absurd (no_some p e))

pub returns-clause-found : goal.returns-clause-found
returns-clause-found c =
    let all : ℕ × ℕ × ℕ = (c.in_ok-number.number, c.in_ok-number.rows, c.in_ok-number.cols) in
    let found = sized_found c.args.text.now all (sym c.in_ok-number.ensures.sized) in
    (found.0, ap (λ (t : List ℕ). codes "rewrap " ++ t) found.1)

pub returns-clause-only : goal.returns-clause-only
returns-clause-only c =
    let all : ℕ × ℕ × ℕ = (c.in_ok-number.number, c.in_ok-number.rows, c.in_ok-number.cols) in
    rewrap_only c.args.text.now (Some all) (Some (Rewrap all.0 all.1 all.2)) c.in_ok-number.ensures.sized
    (λ p e. ap (λ (q : ℕ × ℕ × ℕ). Some (Rewrap q.0 q.1 q.2)) (same_some all p e))
