-- A style is set from the one that is set.
use Rattle.std.proofs.Common.{◌≡◌, ℕ, Bool, true, false, inl, inr, List, Option, None, refl, sym, ap, ◌∙◌}
use Rattle.std.specs.Prelude.{if◌then◌else◌, [], ◌∷◌}
use Rattle.std.proofs.lemmas.Bool.{cases_Bool}
use Rattle.roam_cells.specs.Glyph.{Glyph, IsColour}
use Rattle.roam_cells.specs.Same.{same_style}
use Rattle.roam_cells.specs.declared.styles.Style.{Style}
use Rattle.roam_cells.proofs.SameCells.{style_same}
use Rattle.roam_term.specs.ControlFunctions.{csi, restyle}
use Rattle.roam_term.specs.Terminal.{Live, changed_by}
use Rattle.roam_term.proofs.Steps.{acted, Constants, at_work, restyled}
use Rattle.roam_paint.specs.Painting.{styling}
use Rattle.roam_scroll_paint.specs.Styles.{change_codes, ends_flag, adds, changing, styled_from}
use Rattle.roam_scroll_paint.proofs.Changes.{changed-codes, adds-no_flag}

module _ (k : Constants) (cells : List Glyph) (row col : ℕ) (pending visible : Bool) where
  abbrev works : Style → Option ℕ → Live
  works s printed = at_work k cells row col pending s visible printed

  -- a painter that leaves nothing out
  pub styling_is : (s g : Style) (printed : Option ℕ) → IsColour s.foreground → IsColour s.background
      → acted (styling s g) (works g printed) ≡ works s (if same_style s g then printed else None)
  styling_is s g printed a b =
      elim (cases_Bool (same_style s g)) [
        | inl h ↦
            ap (λ b. acted (if b then [] else restyle s) (works g printed)) h
            ∙ ap (λ x. works x printed) (sym (style_same s g h))
            ∙ sym (ap (λ b. works s (if b then printed else None)) h)
        | inr h ↦
            ap (λ b. acted (if b then [] else restyle s) (works g printed)) h
            ∙ restyled k cells row col pending visible g s printed a b
            ∙ sym (ap (λ b. works s (if b then printed else None)) h)
      ]

  adding_is : (s g : Style) (printed : Option ℕ) → IsColour s.foreground → IsColour s.background → ends_flag g s ≡ false
      → changed_by (csi None (change_codes g s) 0x6D) (works g printed) ≡ works s None
  unfolding changed_by
  adding_is s g printed a b none = ap (λ x. works x None) (changed-codes g s a b none)

  changing_is : (s g : Style) (printed : Option ℕ) → IsColour s.foreground → IsColour s.background → (b : Bool) → adds g s ≡ b
      → acted (if b then csi None (change_codes g s) 0x6D ∷ [] else restyle s) (works g printed) ≡ works s None
  changing_is s g printed a b true e = adding_is s g printed a b (adds-no_flag g s e)
  changing_is s g printed a b false e = restyled k cells row col pending visible g s printed a b

  pub styled_is : (s g : Style) (printed : Option ℕ) → IsColour s.foreground → IsColour s.background
      → acted (styled_from g s) (works g printed) ≡ works s (if same_style s g then printed else None)
  styled_is s g printed a b =
      elim (cases_Bool (same_style s g)) [
        | inl h ↦
            ap (λ b. acted (if b then [] else changing g s) (works g printed)) h
            ∙ ap (λ x. works x printed) (sym (style_same s g h))
            ∙ sym (ap (λ b. works s (if b then printed else None)) h)
        | inr h ↦
            ap (λ b. acted (if b then [] else changing g s) (works g printed)) h
            ∙ changing_is s g printed a b (adds g s) refl
            ∙ sym (ap (λ b. works s (if b then printed else None)) h)
      ]
