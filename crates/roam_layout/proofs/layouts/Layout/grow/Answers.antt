use Rattle.roam_layout.specs.Kept.{plan_of}
use Rattle.roam_layout.proofs.Keeping.{plan_grow, does_grow}
use Rattle.roam_layout.proofs.layouts.Layout.grow.Goals as goal

pub of-requires : goal.of-requires
of-requires c =
    let s = plan_of c.self.inside in
    let shape = c.in_ok-tree.ensures.shape in
    let grown = does_grow s _ _ _ _ _ _ shape c.can_grow.ensures.grown c.if-not-can_grow.false c.grow-grown.ensures.grown in
    record { plan = plan_grow s _ _ _ _ shape c.area_of-area.ensures.area grown c.self.invariant.plan }
