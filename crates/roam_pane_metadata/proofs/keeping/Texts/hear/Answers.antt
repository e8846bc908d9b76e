use Rattle.std.proofs.Common.{◌++◌, true, sym, subst}
use Rattle.roam_pane_metadata.specs.Keeping.{Keeps}
use Rattle.roam_pane_metadata.specs.Emissions.{reset_if}
use Rattle.roam_pane_metadata.proofs.KeepingSteps.{keeps-reset}
use Rattle.roam_pane_metadata.proofs.keeping.Texts.hear.Goals as goal

pub returns-then-is_reset-clause-keeps : goal.returns-then-is_reset-clause-keeps
returns-then-is_reset-clause-keeps c emitted begun k =
    subst (λ b. Keeps c.take_title_back.new.self (emitted ++ reset_if b) begun) (sym c.if-is_reset.true)
    (subst (λ v. Keeps v (emitted ++ reset_if true) begun) (sym c.take_title_back.ensures.said)
    (keeps-reset c.args.self.now emitted begun k))
