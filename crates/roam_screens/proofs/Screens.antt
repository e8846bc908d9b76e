-- Blank screens.
use Rattle.std.proofs.Common.{ℕ, ◌*◌, subst, replicate, sym, ap, ◌∙◌, arith}
use Rattle.std.proofs.lemmas.Bool.{false≢true}
use Rattle.std.proofs.lemmas.List.{get_or-replicate, length-replicate}
use Rattle.roam_cells.specs.Glyph.{Glyph, IsShown, is_wide, is_right_half, blank}
use Rattle.roam_cells.specs.Limits.{IsSize}
use Rattle.roam_cells.specs.Place.{AreWhole}
use Rattle.roam_screens.specs.Screenshot.{IsScreenshot, blank_screenshot}
use Rattle.roam_cells.proofs.CellLists.{is_wide-blank, blank_at, blank_shown}

pub blank_whole : (rows cols : ℕ) → AreWhole rows cols (replicate (rows * cols) blank)
blank_whole rows cols =
    λ r p c q. record {
      wide = λ w. absurd (false≢true (sym is_wide-blank ∙ ap is_wide (sym (blank_at rows cols r c p q)) ∙ w));
      half = λ h. absurd (false≢true (ap is_right_half (sym (blank_at rows cols r c p q)) ∙ h));
    }

pub blank_is_screenshot : (rows cols : ℕ) → IsSize rows cols → IsScreenshot (blank_screenshot rows cols)
blank_is_screenshot rows cols size =
    let count = length-replicate (rows * cols) blank in
    record {
      size = size;
      count = count;
      cursor = record { row_from = omega arith; row_to = omega (arith, size.least_rows); col_from = omega arith; col_to = omega (arith, size.least_columns) };
      whole = blank_whole rows cols;
      unguarded = λ k h. ap (λ (g : Glyph). g.guarded) (get_or-replicate (rows * cols) k blank blank (omega (arith, count, h)));
      shown = λ k h. subst IsShown (sym (get_or-replicate (rows * cols) k blank blank (omega (arith, count, h)))) blank_shown;
    }
