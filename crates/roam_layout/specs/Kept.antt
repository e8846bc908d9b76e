-- The value of a layout's fields, and their invariants.
use Rattle.std.specs.Prelude.{◌≡◌}
use Rattle.roam_layout.specs.Trees.{shape_of}
use Rattle.roam_layout.specs.Layouts.{Plan, IsPlan, panes, edges}
use Rattle.roam_layout.specs.declared.layouts.Layout.TheInside.{Inside}

-- the layout that the fields show
abbrev pub plan_of : Inside → Plan
plan_of a = record { rows = a.rows; cols = a.cols; tree = shape_of a.tree; focus = a.focus; views = a.views }

-- the lists are those of the tree
pub record IsKept (a : Inside) : Type 0 where
  pub plan : IsPlan (plan_of a)
  pub rects : a.rects.items ≡ panes (plan_of a)
  pub borders : a.borders.items ≡ edges (plan_of a)
