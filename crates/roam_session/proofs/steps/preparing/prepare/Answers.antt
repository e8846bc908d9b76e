use Rattle.std.proofs.Common.{ℕ, ◌+◌, ◌<◌, List, [], ◌∷◌, length, length-append, sym, ap, ◌∙◌, subst}
use Rattle.roam_layout.specs.Rects.{rect_in}
use Rattle.roam_session.specs.Stands.{term_at}
use Rattle.roam_session.specs.Steps.{Prepares, step_at}
use Rattle.roam_session.specs.declared.steps.Step.{Step}
use Rattle.roam_session.proofs.Stepping.{prepared_more}
use Rattle.roam_session.proofs.steps.preparing.prepare.Goals as goal

pub loop-pane-preserved : goal.loop-pane-preserved
loop-pane-preserved c =
    let from = c.args.from.now in
    let to = c.args.to.now in
    let terms = c.args.terms.now in
    let steps = c.loop-pane.steps.items in
    let step = c.in_ok-step.step in
    let n = c.loop-pane.pane in
    let last : Prepares step (rect_in n from) (rect_in n to) (term_at terms n) = c.in_ok-step.ensures.step in
    record {
      count =
          ap (λ (xs : List Step). length xs) c.in_ok-push.ensures.items ∙ length-append steps (step ∷ [])
          ∙ ap (λ m. m + 1) c.loop-pane.invariant.count;
      steps =
          subst (λ (xs : List Step). (k : ℕ) → k < n + 1 → Prepares (step_at xs k) (rect_in k from) (rect_in k to) (term_at terms k))
          (sym c.in_ok-push.ensures.items)
          (prepared_more from to terms steps step n c.loop-pane.invariant.count c.loop-pane.invariant.steps last);
    }
