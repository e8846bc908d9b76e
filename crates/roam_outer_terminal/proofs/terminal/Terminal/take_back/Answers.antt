use Rattle.std.proofs.Common.{◌≡◌, Some, refl, sym, ap, ◌∙◌, subst, rules}
use Rattle.roam_outer_terminal.specs.Overlaid.{IsBack}
use Rattle.roam_outer_terminal.specs.Overlaid.TakesBack.{back}
use Rattle.roam_outer_terminal.proofs.terminal.Terminal.take_back.Goals as goal

pub returns-in-Some-clause-taken : goal.returns-in-Some-clause-taken
returns-in-Some-clause-taken g c =
    let taken = c.in-Some.taken in
    let same : taken.over ≡ c.in_ok-over.over = c.in-Some.ensures.back.0 in
    let stood : c.args.self.now.over ≡ Some c.in_ok-over.over = search rules in
    back taken (stood ∙ ap Some (sym same)) refl refl
    (subst (λ o. IsBack o c.args.self.now.outer taken.text.items) (sym same) c.in-Some.ensures.back.1)
