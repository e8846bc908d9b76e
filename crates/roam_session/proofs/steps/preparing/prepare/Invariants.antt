use Rattle.std.proofs.Common.{◌≡◌, ℕ, ◌<◌, length}
use Rattle.roam_layout.specs.Rects.{rect_in}
use Rattle.roam_session.specs.Stands.{term_at}
use Rattle.roam_session.specs.Steps.{Prepares, step_at}
use Rattle.roam_session.proofs.steps.preparing.prepare.Given as goal

abbrev pub invariant-loop-pane : goal.invariant-loop-pane
invariant-loop-pane l = record {
  count : length l.steps.items ≡ l.pane;
  steps : (k : ℕ) → k < l.pane → Prepares (step_at l.steps.items k) (rect_in k l.from) (rect_in k l.to) (term_at l.terms k);
}
