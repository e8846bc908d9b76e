-- Places in whole characters: those of a screen, and of one whose rows went elsewhere.
use Rattle.std.proofs.Common.{◌≡◌, ◌≤◌, ◌<◌, ℕ, ◌+◌, ◌-◌, true, Option, Some, None, List, sym, ap, ◌∙◌, arith}
use Rattle.std.proofs.lemmas.Bool.{false≢true}
use Rattle.roam_cells.specs.Glyph.{Glyph, is_wide, is_right_half, right_of}
use Rattle.roam_cells.specs.Place.{cell_at, AreWhole}
use Rattle.roam_rows.proofs.Mending.{is_wide-blank}
use Rattle.roam_paint.specs.Painting.{Places}
use Rattle.roam_scroll_paint.specs.Bands.{taken}

-- in rows of so many columns a wide character is followed by its right half, and a right half follows one
pub record IsWhole (cols : ℕ) (p : Places) : Type 0 where
  pub wide : (r c : ℕ) → is_wide (p r c) ≡ true → (c + 1 < cols) × (p r (c + 1) ≡ right_of (p r c))
  pub half : (r c : ℕ) → is_right_half (p r c) ≡ true → (0 < c) × (is_wide (p r (c - 1)) ≡ true)

-- places whose rows are rows of whole ones, or blank
pub whole_taken : (cols : ℕ) (p : Places) (source : ℕ → Option ℕ) → IsWhole cols p → IsWhole cols (λ r c. taken p (source r) c)
whole_taken cols p source h =
    let wide_of : (o : Option ℕ) (c : ℕ) → is_wide (taken p o c) ≡ true → (c + 1 < cols) × (taken p o (c + 1) ≡ right_of (taken p o c)) =
    λ o c w. elim o as (λ o. is_wide (taken p o c) ≡ true → (c + 1 < cols) × (taken p o (c + 1) ≡ right_of (taken p o c))) [
      | Some r ↦ λ w. h.wide r c w
      | None ↦ λ w. absurd (false≢true (sym is_wide-blank ∙ w))
    ] w in
    let half_of : (o : Option ℕ) (c : ℕ) → is_right_half (taken p o c) ≡ true → (0 < c) × (is_wide (taken p o (c - 1)) ≡ true) =
    λ o c w. elim o as (λ o. is_right_half (taken p o c) ≡ true → (0 < c) × (is_wide (taken p o (c - 1)) ≡ true)) [
      | Some r ↦ λ w. h.half r c w
      | None ↦ λ w. absurd (false≢true w)
    ] w in
    record { wide = λ r c w. wide_of (source r) c w; half = λ r c w. half_of (source r) c w }

-- cells that show whole places are whole
pub cells_whole : (rows cols n : ℕ) (cells : List Glyph) (p : Places) → n ≤ cols → IsWhole n p
    → ((r c : ℕ) → r < rows → c < cols → cell_at cols cells r c ≡ p r c) → AreWhole rows cols cells
cells_whole rows cols n cells p fits h shows = λ r a c b. record {
  wide = λ w.
      let t = h.wide r c (ap is_wide (sym (shows r c a b)) ∙ w) in
      let t0 = t.0 in
      let next : c + 1 < cols = omega (arith, t0, fits) in
      (next, shows r (c + 1) a next ∙ t.1 ∙ ap right_of (sym (shows r c a b)));
  half = λ w.
      let t = h.half r c (ap is_right_half (sym (shows r c a b)) ∙ w) in
      (t.0, ap is_wide (shows r (c - 1) a (omega (arith, b))) ∙ t.1);
}
