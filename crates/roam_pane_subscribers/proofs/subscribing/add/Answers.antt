use Rattle.roam_pane_subscribers.proofs.Telling.{pushed}
use Rattle.roam_pane_subscribers.proofs.subscribing.add.Goals as goal

pub returns-then-len-lt-MOST_TAKEN-clause-came : goal.returns-then-len-lt-MOST_TAKEN-clause-came
returns-then-len-lt-MOST_TAKEN-clause-came c = pushed c.push.result _ _ c.new.result c.new.ensures.fresh c.push.ensures.items
