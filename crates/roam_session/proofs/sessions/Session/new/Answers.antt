use Rattle.std.proofs.Common.{◌≡◌, [], replicate, true, None, Option, refl, sym, subst}
use Rattle.roam_grid.specs.Marks.{all_on}
use Rattle.roam_term.specs.Stands.{TermView}
use Rattle.roam_layout.specs.Rects.{rect_in}
use Rattle.roam_layout.specs.Layouts.{panes}
use Rattle.roam_session.specs.Stands.{SessionView, IsPlaced, IsQuietAt, shown_by, term_at}
use Rattle.roam_session.proofs.Agreeing.{placed_given}
use Rattle.roam_session.proofs.Entering.{brought, stands_first}
use Rattle.roam_session.proofs.KeepingRows.{all_kept}
use Rattle.roam_session.proofs.Living.{first_generations}
use Rattle.roam_session.proofs.Quiet.{quiet_given}
use Rattle.roam_session.proofs.Rectangles.{sizes_in}
use Rattle.roam_session.proofs.sessions.Session.new.Goals as goal

none_placed : (o : Option TermView) → o ≡ None → IsPlaced None o
none_placed o e = subst (IsPlaced None) (sym e) tt

none_quiet : (o : Option TermView) → o ≡ None → IsQuietAt o
none_quiet o e = subst IsQuietAt (sym e) tt

pub returns-clause-stands : goal.returns-clause-stands
returns-clause-stands c =
    let plan = c.in_ok-layout.layout in
    let ts = c.in_ok-terms.terms.items in
    let us = c.perform.new.terms.items in
    let new : SessionView = record { plan = plan; terms = us; marks = replicate 200 true; kept = c.in_ok-kept.kept; generations = first_generations } in
    stands_first new (record { rows = c.args.rows; cols = c.args.cols }) ts c.in_ok-layout.ensures.start refl c.in_ok-terms.ensures.none
    (brought [] plan [] c.rects.result.now ts c.deref.result.now us c.in_ok-steps.steps.items c.facts.ensures.plan refl
    c.rects.ensures.rects
    c.deref.ensures.value c.perform.ensures.ten c.in_ok-steps.ensures.steps c.perform.ensures.done)

pub invariant_of-result : goal.invariant_of-result
unfolding all_on
invariant_of-result c =
    let plan = c.in_ok-layout.layout in
    let ts = c.in_ok-terms.terms.items in
    let us = c.perform.new.terms.items in
    let given = brought [] plan [] c.rects.result.now ts c.deref.result.now us c.in_ok-steps.steps.items c.facts.ensures.plan refl
    c.rects.ensures.rects
    c.deref.ensures.value c.perform.ensures.ten c.in_ok-steps.ensures.steps c.perform.ensures.done in
    record {
      ten = c.perform.ensures.ten;
      placed = λ k. placed_given None (rect_in k (panes plan)) (term_at ts k) (term_at us k) (given k) (none_placed (term_at ts k) (c.in_ok-terms.ensures.none k));
      quiet = λ k.
          quiet_given None (rect_in k (panes plan)) (term_at ts k) (term_at us k) (λ r e. sizes_in plan c.facts.ensures.plan k r e) (given k)
          (none_quiet (term_at ts k) (c.in_ok-terms.ensures.none k));
      kept = all_kept c.in_ok-kept.kept plan (shown_by plan us) c.facts.ensures.plan.size.1;
    }

pub returns-clause-marks : goal.returns-clause-marks
unfolding all_on
returns-clause-marks c = refl
