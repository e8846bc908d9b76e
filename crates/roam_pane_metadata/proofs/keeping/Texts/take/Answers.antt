use Rattle.std.proofs.Common.{◌++◌, map, sym, subst}
use Rattle.roam_text.specs.Strings.{after_step}
use Rattle.roam_pane_metadata.specs.Keeping.{Keeps, ended_by}
use Rattle.roam_pane_metadata.specs.Emissions.{Says}
use Rattle.roam_pane_metadata.proofs.KeepingSteps.{ends-keep}
use Rattle.roam_pane_metadata.proofs.keeping.Texts.take.Goals as goal

pub returns-in-Ended-clause-keeps : goal.returns-in-Ended-clause-keeps
returns-in-Ended-clause-keeps c emitted all k =
    subst (λ s. Keeps c.end.new.self (emitted ++ map Says (ended_by s all.begun)) (after_step s all).begun) (sym c.in-Ended.is)
    (ends-keep emitted all c.in-Ended.field-0 c.args.self.now c.end.new.self c.end.ensures.ends k)
