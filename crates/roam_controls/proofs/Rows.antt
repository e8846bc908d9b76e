-- A parameter of SGR sets the aspect in its row of the tables.
use Rattle.std.proofs.Common.{◌≡◌, ℕ, zero, suc, ◌<◌, ◌≤◌, Bool, true, ◌&&◌, ◌==◌, inl, inr, refl, arith, subst, eqb-true}
use Rattle.std.proofs.lemmas.Bool.{and_parts, cases_lt}
use Rattle.std.proofs.lemmas.Bool.Decides.{nat_tests}
use Rattle.std.specs.Prelude.{slice_index}
use Rattle.roam_cells.specs.Aspects.{showing, mask_of, digits_of, is_aspect}
use Rattle.roam_cells.specs.Inks.{digit, number_of}
use Rattle.roam_cells.specs.declared.styles.Style.{Style}
use Rattle.roam_controls.specs.Aspects.{colour_aspect, ending_aspect, aspect_of}
use Rattle.roam_controls.specs.Renditions.{with_colour, without_aspect, with_aspect}
use Rattle.roam_controls.specs.declared.renditions.TheConstants.{MASKS, DIGITS}

colour-aspect : (p : ℕ) (g : Style) → with_colour p g ≡ showing (colour_aspect p) g
colour-aspect p g = grind (arith, nat_tests)

ending-aspect : (p : ℕ) (g : Style) → without_aspect p g ≡ showing (ending_aspect p) g
ending-aspect p g = grind (arith, nat_tests, colour-aspect p g)

pub aspect-is : (p : ℕ) (g : Style) → with_aspect p g ≡ showing (aspect_of p) g
aspect-is p g = grind (arith, nat_tests, ending-aspect p g)

-- ---- the tables

unfoldable all_below : (ℕ → Bool) → ℕ → Bool
all_below t zero = true
all_below t (suc n) = t n && all_below t n

below : (t : ℕ → Bool) (n p : ℕ) → all_below t n ≡ true → p < n → t p ≡ true
unfolding all_below
below t zero p h less = absurd (omega (arith, less))
below t (suc n) p h less =
    let parts = and_parts (t n) (all_below t n) h in
    elim (cases_lt p n) [
      | inl here ↦ below t n p parts.1 here
      | inr last ↦ let at : n ≡ p = omega (arith, last, less) in subst (λ k. t k ≡ true) at parts.0
    ]

abbrev has_row : ℕ → Bool
has_row p =
    (slice_index MASKS p == mask_of (aspect_of p)) && ((slice_index DIGITS p == digits_of (aspect_of p)) && is_aspect (aspect_of p))

all_rows : all_below has_row 108 ≡ true
unfolding all_below digit number_of
all_rows = refl

pub record Row (p : ℕ) : Type 0 where
  pub mask : slice_index MASKS p ≡ mask_of (aspect_of p)
  pub digits : slice_index DIGITS p ≡ digits_of (aspect_of p)
  pub aspect : is_aspect (aspect_of p) ≡ true

pub row_at : (p : ℕ) → p < 108 → Row p
row_at p h =
    let parts = and_parts (slice_index MASKS p == mask_of (aspect_of p))
    ((slice_index DIGITS p == digits_of (aspect_of p)) && is_aspect (aspect_of p)) (below has_row 108 p all_rows h) in
    let rest = and_parts (slice_index DIGITS p == digits_of (aspect_of p)) (is_aspect (aspect_of p)) parts.1 in
    record {
      mask = eqb-true (slice_index MASKS p) (mask_of (aspect_of p)) parts.0;
      digits = eqb-true (slice_index DIGITS p) (digits_of (aspect_of p)) rest.0;
      aspect = rest.1;
    }

pub none-above : (p : ℕ) (g : Style) → 108 ≤ p → with_aspect p g ≡ g
none-above p g h = grind (arith, nat_tests)
