use Rattle.std.proofs.Common.{◌≡◌, List, ℕ, sym, subst}
use Rattle.std.specs.Prelude.{IfSome, codes}
use Rattle.roam_terminal_input.specs.Showings.{IsShowing, showing_text}
use Rattle.roam_terminal_input.proofs.ShownAgain.{behind_head}
use Rattle.roam_terminal_input.proofs.showings.read_showing.Goals as goal

pub returns-clause-found : goal.returns-clause-found
returns-clause-found c =
    let cut = behind_head c.args.line.now c.as_slice-4.result.now (codes "mask ") c.in_ok-text.text c.as_slice-4.ensures c.in_ok-text.ensures.cases in
    subst (λ (line : List ℕ). IfSome c.behind_mask.result (λ showing. IsShowing showing × line ≡ showing_text showing)) (sym cut)
    c.behind_mask.ensures.found
