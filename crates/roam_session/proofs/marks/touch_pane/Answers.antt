use Rattle.std.proofs.Common.{◌≡◌, ◌∙◌, Option, Some, take, sym, ap, subst}
use Rattle.roam_grid.specs.Marks.{also_marked}
use Rattle.roam_layout.specs.Rects.{rect_in}
use Rattle.roam_layout.specs.Layouts.{panes}
use Rattle.roam_layout.specs.declared.rects.Rect.{Rect}
use Rattle.roam_session.specs.Marks.{is_touched, touched_marks, view_in}
use Rattle.roam_session.specs.Stands.{IsPlaced}
use Rattle.roam_session.proofs.Marked.{touched_rows}
use Rattle.roam_session.proofs.marks.touch_pane.Goals as goal

pub touch-requires : goal.touch-requires
touch-requires c =
    let a = c.args in
    let x = c.in-Some.rect in
    let rect : rect_in a.pane (panes a.layout.now) ≡ Some x =
    sym (c.rect_of.ensures.rect ∙ ap (rect_in a.pane) c.rects.ensures.rects) ∙ c.in-Some.is in
    let size = subst (λ (r : Option Rect). IsPlaced r (Some a.term.now)) rect c.requires.placed in
    record { named = c.marks.ensures.len ∙ size.0 }

pub returns-in-Some-view : goal.returns-in-Some-view
returns-in-Some-view c =
    let a = c.args in
    let x = c.in-Some.rect in
    let v = c.in-Some-view.view in
    let rows = a.layout.now.rows in
    let rect : rect_in a.pane (panes a.layout.now) ≡ Some x =
    sym (c.rect_of.ensures.rect ∙ ap (rect_in a.pane) c.rects.ensures.rects) ∙ c.in-Some.is in
    let view : view_in a.layout.now a.pane ≡ Some v = sym c.view.ensures.view ∙ c.in-Some-view.is in
    let size = subst (λ (r : Option Rect). IsPlaced r (Some a.term.now)) rect c.requires.placed in
    record {
      marks =
          c.touch.ensures.marks
          ∙ ap (λ n. also_marked (is_touched x v n c.marks.result.now) a.marks.now) c.rows.ensures.rows
          ∙ ap (λ named. also_marked (is_touched x v rows named) a.marks.now) (c.marks.ensures.marks ∙ ap (λ n. take n a.term.now.marks) size.0)
          ∙ touched_rows x v rows a.term.now.marks a.marks.now
          ∙ sym (ap (λ o. touched_marks (Some x) o rows a.term.now.marks a.marks.now) view)
          ∙ sym (ap (λ o. touched_marks o (view_in a.layout.now a.pane) rows a.term.now.marks a.marks.now) rect);
    }
