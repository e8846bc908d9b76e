-- Positions and places, row by row.
use Rattle.std.proofs.Common.{◌≡◌, ℕ, zero, suc, ◌-◌, true, false, inl, inr, List, [], ◌∷◌, refl, ap, subst, ◌∙◌, arith}
use Rattle.std.specs.Prelude.{◌==◌, if◌then◌else◌}
use Rattle.std.proofs.lemmas.Bool.{ne_eqb, true≢false}
use Rattle.roam_rewrap.specs.Lines.{TextRow}
use Rattle.roam_rewrap.specs.Windows.{IsOver, LeavesRange, below, is_here, place_of, position_after, position_behind, position_from}
use Rattle.roam_rewrap.specs.declared.places.ScreenPosition.{ScreenPosition}
use Rattle.roam_rewrap.specs.declared.places.TextPosition.{TextPosition}

pub position_step : (s : TextPosition) (left : ℕ) (row : TextRow) (rows : List TextRow)
    → position_from (if left == 0 then s else position_after s row) (left - 1) rows ≡ position_from s left (row ∷ rows)
position_step s zero row rows = refl
position_step s (suc n) row rows =
    let back : suc n - 1 ≡ n = omega arith in
    ap (λ b. position_from (if b then s else position_after s row) (suc n - 1) rows) (ne_eqb (suc n) 0 (λ e. absurd (omega (arith, e))))
    ∙ ap (λ k. position_from (position_after s row) k rows) back

-- a way of one row more leaves 64 bits where the rest of it does
pub leaves_later : (s : TextPosition) (left : ℕ) (row : TextRow) (rows : List TextRow)
    → LeavesRange (if left == 0 then s else position_after s row) (left - 1) rows → LeavesRange s left (row ∷ rows)
leaves_later s zero row rows later = later
leaves_later s (suc n) row rows later =
    let back : suc n - 1 ≡ n = omega arith in
    let one : (suc n == 0) ≡ false = ne_eqb (suc n) 0 (λ e. absurd (omega (arith, e))) in
    inr (subst (λ k. LeavesRange (position_after s row) k rows) back
    (subst (λ b. LeavesRange (if b then s else position_after s row) (suc n - 1) rows) one later))

-- or at once
pub leaves_here : (s : TextPosition) (left : ℕ) (row : TextRow) (rows : List TextRow)
    → (((left == 0) ≡ false) × IsOver (position_after s row)) → LeavesRange s left (row ∷ rows)
leaves_here s zero row rows (none, over) = absurd (true≢false none)
leaves_here s (suc n) row rows (none, over) = inl over

pub position_end : (s : TextPosition) (left : ℕ) → position_from s left [] ≡ s
position_end s zero = refl
position_end s (suc n) = refl

pub place_here : (s : TextPosition) (row : TextRow) (rows : List TextRow) → is_here s row ≡ true
    → place_of s (row ∷ rows) ≡ record { row = 0; col = s.cell }
place_here s row rows h = ap (λ b. if b then record { row = 0; col = s.cell } else below (place_of (position_behind s row) rows)) h

pub place_below : (s : TextPosition) (row : TextRow) (rows : List TextRow) → is_here s row ≡ false
    → place_of s (row ∷ rows) ≡ below (place_of (position_behind s row) rows)
place_below s row rows h = ap (λ b. if b then record { row = 0; col = s.cell } else below (place_of (position_behind s row) rows)) h

pub same_place : (p q : ScreenPosition) → p.row ≡ q.row → p.col ≡ q.col → p ≡ q
same_place p q row col i = record { row = row i; col = col i }
