use Rattle.roam_pane_metadata.proofs.KeepingSteps.{keeps-nothing}
use Rattle.roam_pane_metadata.proofs.keeping.Texts.new.Goals as goal

pub returns-clause-keeps : goal.returns-clause-keeps
returns-clause-keeps c = keeps-nothing c.new.result.items
