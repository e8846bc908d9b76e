use Rattle.std.proofs.Common.{subst}
use Rattle.roam_layout.specs.Layouts.{Plan, area, panes, edges}
use Rattle.roam_layout.specs.Rects.{Covers}
use Rattle.roam_layout.specs.Kept.{plan_of}
use Rattle.roam_layout.proofs.Covering.{covered}
use Rattle.roam_layout.proofs.layouts.Layout.borders.Goals as goal

pub returns-clause-covers : goal.returns-clause-covers
returns-clause-covers c =
    subst (λ (s : Plan). Covers (panes s) (edges s) (area s.rows s.cols)) c.self.view_is
    (covered (plan_of c.self.inside).tree (area c.self.inside.rows c.self.inside.cols) c.self.invariant.plan.fits)
