use Rattle.roam_pane_subscribers.proofs.Telling.{more_came}
use Rattle.roam_pane_subscribers.proofs.subscribing.accept_all.Goals as goal

pub loop-preserved : goal.loop-preserved
loop-preserved c =
    record {
      came = more_came _ _ _ c.loop.invariant.came c.add.ensures.came;
      few = λ h. c.add.ensures.few (c.loop.invariant.few h);
    }
