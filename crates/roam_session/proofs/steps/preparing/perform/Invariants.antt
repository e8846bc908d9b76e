use Rattle.std.proofs.Common.{◌≡◌, ℕ, ◌<◌, ◌≤◌, length}
use Rattle.roam_session.specs.Stands.{term_at}
use Rattle.roam_session.specs.Steps.{Does, step_at}
use Rattle.roam_session.proofs.steps.preparing.perform.Given as goal

abbrev pub invariant-loop-k : goal.invariant-loop-k
invariant-loop-k l = record {
  ten : length l.terms.items ≡ 10;
  count : length l.steps.items ≡ 10;
  done : (j : ℕ) → j < l.k → Does (step_at l.initial.steps.items j) (term_at l.initial.terms.items j) (term_at l.terms.items j);
  terms : (j : ℕ) → l.k ≤ j → term_at l.terms.items j ≡ term_at l.initial.terms.items j;
  steps : (j : ℕ) → l.k ≤ j → step_at l.steps.items j ≡ step_at l.initial.steps.items j;
}
