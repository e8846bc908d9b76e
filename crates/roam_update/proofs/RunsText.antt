-- The text of the runs from a place on.
use Rattle.std.proofs.Common.{◌≡◌, ℕ, ◌+◌, ◌<◌, ◌≤◌, false, List, ◌++◌, length, drop, sym, ap, ◌∙◌, arith, subst, inl, inr}
use Rattle.std.specs.Prelude.{slice_range}
use Rattle.std.proofs.lemmas.Bool.{cases_lt}
use Rattle.std.proofs.lemmas.List.{append-nil}
use Rattle.roam_cells.specs.Glyph.{Glyph}
use Rattle.roam_cells.specs.Place.{glyph_at}
use Rattle.roam_update.specs.Runs.{Run, runs_from, runs_between}
use Rattle.roam_update.specs.Numbers.{form_over, form_behind, run_said, runs_said}
use Rattle.roam_update.specs.Styles.{Form}
use Rattle.roam_update.proofs.Said.{runs_step, used_step, runs_end, used_end}
use Rattle.roam_update.proofs.Stretches.{left, skipped, next_run, at_end}

-- a property of a place and of those behind it
pub from_first : (P : ℕ → Type 0) (first end : ℕ) → P first → ((k : ℕ) → first + 1 ≤ k → k < end → P k) → (k : ℕ) → first ≤ k → k < end → P k
from_first P first end here more k p q =
    elim (cases_lt first k) [
      | inl h ↦ more k (omega (arith, h)) q
      | inr h ↦ let e : first ≡ k = omega (arith, p, h) in subst P e here
    ]

module _ (base cells : List Glyph) (len : length base ≡ length cells) where
  -- up to the first place that differs
  pub from_start : (next : ℕ) → next ≤ length cells → ((i : ℕ) → 0 ≤ i → i < next → glyph_at base i ≡ glyph_at cells i)
      → runs_from false next (drop next base) (drop next cells) ≡ runs_between base cells
  from_start next h agree =
      let e : 0 + next ≡ next = omega arith in
      sym (skipped base cells len next 0 (omega (arith, h)) (λ i p q. agree i p (omega (arith, q))) ∙ ap (left base cells len false) e)

  -- past a run
  module _ (first end next : ℕ) (p : first < end) (q : end ≤ next) (r : next ≤ length cells)
      (differ : (i : ℕ) → first ≤ i → i < end → ¬ (glyph_at base i ≡ glyph_at cells i)) (agree : (i : ℕ) → end ≤ i → i < next → glyph_at base i ≡ glyph_at cells i)
      (last : end < length cells → glyph_at base end ≡ glyph_at cells end) where
    abbrev run : Run
    run = record { first = first; cells = slice_range cells first end }

    pub text_more : (t : List ℕ) (f : Form)
        → (t ++ run_said f run) ++ runs_said (form_over f run.cells) (runs_from false next (drop next base) (drop next cells))
        ≡ t ++ runs_said f (runs_from false first (drop first base) (drop first cells))
    text_more t f =
        runs_step t f run (left base cells len false next)
        ∙ ap (λ (runs : List Run). t ++ runs_said f runs) (sym (next_run base cells len first end next p q r differ agree last))

    pub used_more : (f : Form) → form_behind (form_over f run.cells) (runs_from false next (drop next base) (drop next cells))
        ≡ form_behind f (runs_from false first (drop first base) (drop first cells))
    used_more f =
        used_step f run (left base cells len false next)
        ∙ ap (form_behind f) (sym (next_run base cells len first end next p q r differ agree last))

    pub count_more : (n : ℕ) → n + 1 + length (runs_from false next (drop next base) (drop next cells)) ≡ n + length (runs_from false first (drop first base) (drop first cells))
    count_more n = let e = ap length (next_run base cells len first end next p q r differ agree last) in omega (arith, e)

  pub text_end : (t : List ℕ) (f : Form) (k : ℕ) → length cells ≤ k → t ++ runs_said f (runs_from false k (drop k base) (drop k cells)) ≡ t
  text_end t f k h =
      ap (λ (runs : List Run). t ++ runs_said f runs) (at_end base cells len false k h) ∙ ap (λ (x : List ℕ). t ++ x) (runs_end f) ∙ append-nil t

  pub used_past : (f : Form) (k : ℕ) → length cells ≤ k → form_behind f (runs_from false k (drop k base) (drop k cells)) ≡ f
  used_past f k h = ap (form_behind f) (at_end base cells len false k h) ∙ used_end f

  pub count_end : (k : ℕ) → length cells ≤ k → length (runs_from false k (drop k base) (drop k cells)) ≡ 0
  count_end k h = ap length (at_end base cells len false k h)
