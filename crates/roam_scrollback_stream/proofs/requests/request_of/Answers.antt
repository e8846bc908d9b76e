use Rattle.std.proofs.Common.{◌≡◌, List, ℕ, sym, subst}
use Rattle.std.specs.Prelude.{IfSome, codes}
use Rattle.roam_scrollback_stream.specs.Requests.{IsRequest, request_text}
use Rattle.roam_scrollback_stream.proofs.Asking.{behind_head}
use Rattle.roam_scrollback_stream.proofs.requests.request_of.Goals as goal

pub returns-clause-found : goal.returns-clause-found
returns-clause-found c =
    let cut =
    behind_head c.args.line.now c.as_slice-6.result.now (codes "gone ") c.in_ok-text.text c.as_slice-6.ensures c.in_ok-text.ensures.cases in
    subst (λ (line : List ℕ). IfSome c.behind_gone.result (λ request. IsRequest request × line ≡ request_text request)) (sym cut)
    c.behind_gone.ensures.found
