use Rattle.roam_layout.specs.Kept.{plan_of}
use Rattle.roam_layout.proofs.Keeping.{plan_close}
use Rattle.roam_layout.proofs.layouts.Layout.close.Goals as goal

pub of-requires : goal.of-requires
of-requires c =
    record {
      plan =
          plan_close (plan_of c.self.inside) _ _ _ c.in_ok-tree.ensures.shape c.close.ensures.shape c.heir-heir.ensures.pane
          c.self.invariant.plan;
    }
