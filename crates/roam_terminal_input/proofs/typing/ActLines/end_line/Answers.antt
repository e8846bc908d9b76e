use Rattle.std.proofs.Common.{arith, subst, refl, ℕ, List}
use Rattle.roam_terminal_input.specs.Keys.{IsLineOf}
use Rattle.roam_terminal_input.specs.Typing as typing
use Rattle.roam_terminal_input.proofs.typing.ActLines.end_line.Goals as goal

pub returns-clause-ends : goal.returns-clause-ends
returns-clause-ends c =
    typing.act c.in-Ok.act (subst (λ (t : List ℕ). IsLineOf t c.in-Ok.act) c.as_slice.ensures.value c.in-Ok.ensures.found)
    c.in_ok-push_act.ensures.pushed c.clear.ensures.items (omega (arith, c.saturating_add-number.ensures)) refl
