use Rattle.std.proofs.Common.{ap, ◌∙◌, sym}
use Rattle.roam_layout.specs.Trees.{shape_of, has}
use Rattle.roam_layout.specs.Kept.{plan_of}
use Rattle.roam_layout.specs.Layouts.{next, area, Laid}
use Rattle.roam_layout.proofs.Keeping.{plan_focus, next_in, next_pane}
use Rattle.roam_layout.proofs.layouts.Layout.next.Goals as goal

pub of-requires : goal.of-requires
of-requires c =
    let a = c.self.inside in
    let e = next_pane (shape_of a.tree) (area a.rows a.cols) _ _ a.focus _
    (c.deref.ensures.value ∙ c.self.invariant.rects) c.first_leaf.ensures.pane c.pane_after-pane.ensures.pane in
    record {
      plan = plan_focus (plan_of c.self.inside) _ _ c.in_ok-tree.ensures.shape
          (ap (λ p. has p (shape_of a.tree)) e ∙ next_in a.focus (shape_of a.tree)) c.self.invariant.plan;
    }

pub returns : goal.returns
returns c =
    let a = c.self.inside in
    let e = next_pane (shape_of a.tree) (area a.rows a.cols) _ _ a.focus _
    (c.deref.ensures.value ∙ c.self.invariant.rects) c.first_leaf.ensures.pane c.pane_after-pane.ensures.pane in
    record {
      answer = ap next (sym c.self.view_is) ∙ (λ i. Laid
          (record { rows = a.rows; cols = a.cols; tree = sym c.in_ok-tree.ensures.shape i; focus = sym e i; views = a.views }))
          ∙ ap Laid (sym c.in_ok-of.ensures.layout);
    }
