use Rattle.std.proofs.Common.{ap, subst, sym, List, ℕ, arith}
use Rattle.std.specs.List.{All}
use Rattle.roam_layout.specs.Status.{IsPrintable}
use Rattle.roam_layout.specs.Trees.{AreNumbers}
use Rattle.roam_layout.specs.Layouts.{Plan}
use Rattle.roam_layout.proofs.Texts.{row_done, row_printable}
use Rattle.roam_layout.proofs.layouts.Layout.status.Goals as goal

pub returns-clause-text : goal.returns-clause-text
returns-clause-text c =
    row_done c.args.self.now c.focus.result c.rects.result.now c.focus_view.result c.self.inside.cols c.new-text.result.items
    c.push_labels.new.text.items c.push_view.new.text.items c.fit.new.text.items c.new-text.ensures.items c.focus.ensures.focus
    c.rects.ensures.rects
    c.focus_view.ensures.view (ap (λ (s : Plan). s.cols) c.self.view_is) c.in_ok-push_labels.ensures.text
    c.in_ok-push_view.ensures.text c.in_ok-fit.ensures.text

pub returns-clause-printable : goal.returns-clause-printable
returns-clause-printable c =
    subst (λ (l : List ℕ). All IsPrintable l) (sym (returns-clause-text c))
    (row_printable c.args.self.now c.focus_view.result
    (subst (λ (s : Plan). AreNumbers s.tree) c.self.view_is c.self.invariant.plan.numbers) c.focus_view.ensures.view (omega (
      arith,
      c.focus_view.type_inv,
    )))
