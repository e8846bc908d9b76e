use Rattle.std.proofs.Common.{arith, rules, ap, ◌∙◌, sym, pos, ◌+ℤ◌}
use Rattle.std.specs.Prelude.{slice_set, slice_index}
use Rattle.roam_layout.specs.Trees.{shape_of}
use Rattle.roam_layout.specs.Kept.{plan_of}
use Rattle.roam_layout.specs.Layouts.{scroll, view_in_range, Laid}
use Rattle.roam_layout.proofs.Keeping.{number_of, scroll_done}
use Rattle.roam_layout.proofs.layouts.Layout.scroll.Goals as goal

pub bounds-self-inside-focus : goal.bounds-self-inside-focus
bounds-self-inside-focus c = let number = number_of c.self.inside.focus
    (shape_of c.self.inside.tree) c.self.invariant.plan.numbers c.self.invariant.plan.focus in omega
    (arith, number.1, c.from-focus.ensures)

pub bounds-views-focus : goal.bounds-views-focus
bounds-views-focus c = let number = number_of c.self.inside.focus
    (shape_of c.self.inside.tree) c.self.invariant.plan.numbers c.self.invariant.plan.focus in omega
    (arith, number.1, c.from-focus.ensures)

pub returns : goal.returns
returns c =
    record {
      answer = ap (scroll c.args.by) (sym c.self.view_is)
          ∙ scroll_done c.args.by (plan_of c.self.inside) _ c.from-focus.result c.moved_view.result _ c.in_ok-tree.ensures.shape c.from-focus.ensures (c.moved_view.ensures.view ∙ ap (λ d. view_in_range (pos (slice_index c.self.inside.views c.from-focus.result) +ℤ d)) (search rules)) (λ _. slice_set c.self.inside.views c.from-focus.result c.moved_view.result)
          ∙ ap Laid (sym c.in_ok-of.ensures.layout);
    }
