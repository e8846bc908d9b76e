use Rattle.std.proofs.Common.{ℕ, Bool, List, sym, ap, ◌∙◌, subst}
use Rattle.roam_layout.specs.Faces.{KeepsRows}
use Rattle.roam_layout.specs.Rects.{rect_in}
use Rattle.roam_layout.specs.Layouts.{panes}
use Rattle.roam_session.specs.Stands.{SessionView, shown_by, term_at}
use Rattle.roam_session.specs.Steps.{IsGiven}
use Rattle.roam_session.proofs.Rectangles.{sizes_in}
use Rattle.roam_session.proofs.Entering.{brought, placed_all}
use Rattle.roam_session.proofs.KeepingRows.{laid_keeps}
use Rattle.roam_session.proofs.Quiet.{quiet_given}
use Rattle.roam_session.proofs.sessions.Session.lay_out.Goals as goal

pub prepare-requires-clause-sizes : goal.prepare-requires-clause-sizes
prepare-requires-clause-sizes c k r e =
    sizes_in c.in_ok-next.next c.facts-2.ensures.plan k r (ap (rect_in k) (sym c.rects-2.ensures.rects) ∙ e)

pub invariant_of-self : goal.invariant_of-self
invariant_of-self c =
    let old = c.self.inside.layout in
    let new = c.in_ok-next.next in
    let ts = c.self.inside.terms.items in
    let us = c.perform.new.terms.items in
    record {
      ten = c.perform.ensures.ten;
      placed =
          placed_all old new ts us c.self.invariant.placed
          (brought
          (panes old) new c.rects.result.now c.rects-2.result.now ts c.deref.result.now us c.in_ok-steps.steps.items c.facts-2.ensures.plan
          c.rects.ensures.rects c.rects-2.ensures.rects c.deref.ensures.value c.perform.ensures.ten c.in_ok-steps.ensures.steps
          c.perform.ensures.done);
      quiet = λ k.
          quiet_given (rect_in k (panes old)) (rect_in k (panes new)) (term_at ts k) (term_at us k)
          (λ r e. sizes_in new c.facts-2.ensures.plan k r e)
          (brought
          (panes old) new c.rects.result.now c.rects-2.result.now ts c.deref.result.now us c.in_ok-steps.steps.items c.facts-2.ensures.plan
          c.rects.ensures.rects c.rects-2.ensures.rects c.deref.ensures.value c.perform.ensures.ten c.in_ok-steps.ensures.steps
          c.perform.ensures.done k)
          (c.self.invariant.quiet k);
      kept =
          subst (λ (marks : List Bool). KeepsRows marks c.self.inside.kept new (shown_by new us)) (sym c.mark_laid.ensures.marks)
          (laid_keeps c.args.act.now old new c.facts.ensures.plan c.facts-2.ensures.plan c.in_ok-next.ensures.answer ts us c.self.inside.kept
          c.self.inside.marks
          (brought
          (panes old) new c.rects.result.now c.rects-2.result.now ts c.deref.result.now us c.in_ok-steps.steps.items c.facts-2.ensures.plan
          c.rects.ensures.rects c.rects-2.ensures.rects c.deref.ensures.value c.perform.ensures.ten c.in_ok-steps.ensures.steps
          c.perform.ensures.done)
          c.self.invariant.kept);
    }

pub returns-clause-given : goal.returns-clause-given
returns-clause-given c =
    let old = c.self.inside.layout in
    let new = c.in_ok-next.next in
    let ts = c.self.inside.terms.items in
    let us = c.perform.new.terms.items in
    subst (λ (s : SessionView). (k : ℕ) → IsGiven (rect_in k (panes s.plan)) (rect_in k (panes new)) (term_at s.terms k)
    (term_at us k)) c.self.view_is
    (brought
    (panes old) new c.rects.result.now c.rects-2.result.now ts c.deref.result.now us c.in_ok-steps.steps.items c.facts-2.ensures.plan
    c.rects.ensures.rects c.rects-2.ensures.rects c.deref.ensures.value c.perform.ensures.ten c.in_ok-steps.ensures.steps
    c.perform.ensures.done)
