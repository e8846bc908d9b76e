-- Steps for the numbers from 0 on.
use Rattle.std.proofs.Common.{◌≡◌, ℕ, ◌+◌, ◌<◌, inl, inr, List, [], ◌∷◌, ◌++◌, length, Option, sym, ap, ◌∙◌, subst, arith}
use Rattle.std.proofs.lemmas.Bool.{cases_lt}
use Rattle.std.proofs.lemmas.List.{get_or_append_left}
use Rattle.std.proofs.Math.Seq.{get_or-append_seam}
use Rattle.roam_term.specs.Stands.{TermView}
use Rattle.roam_layout.specs.Rects.{rect_in}
use Rattle.roam_layout.specs.declared.rects.Rect.{Rect}
use Rattle.roam_session.specs.Stands.{term_at}
use Rattle.roam_session.specs.Steps.{Prepares, step_at}
use Rattle.roam_session.specs.declared.steps.Step.{Step}
use Rattle.roam_session.specs.declared.steps.Step.TheVariants.{Keep}

-- one more step for one more number
pub prepared_more : (from to : List (ℕ × Rect)) (terms : List (Option TermView)) (steps : List Step) (step : Step) (n : ℕ)
    → length steps ≡ n → ((k : ℕ) → k < n → Prepares (step_at steps k) (rect_in k from) (rect_in k to) (term_at terms k))
    → Prepares step (rect_in n from) (rect_in n to) (term_at terms n)
    → (k : ℕ) → k < n + 1 → Prepares (step_at (steps ++ step ∷ []) k) (rect_in k from) (rect_in k to) (term_at terms k)
prepared_more from to terms steps step n count before last k h =
    elim (cases_lt k n) [
      | inl low ↦
          subst (λ (s : Step). Prepares s (rect_in k from) (rect_in k to) (term_at terms k))
          (sym (get_or_append_left steps (step ∷ []) Keep k (omega (arith, count, low)))) (before k low)
      | inr high ↦
          let same : n ≡ k = omega (arith, high, h) in
          let there : step ≡ step_at (steps ++ step ∷ []) n =
          sym (get_or-append_seam steps step [] Keep) ∙ ap (step_at (steps ++ step ∷ [])) count in
          subst (λ (j : ℕ). Prepares (step_at (steps ++ step ∷ []) j) (rect_in j from) (rect_in j to) (term_at terms j)) same
          (subst (λ (s : Step). Prepares s (rect_in n from) (rect_in n to) (term_at terms n)) there last)
    ]
