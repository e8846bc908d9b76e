-- A row with predicted cells is a row of whole characters, as it was.
use Rattle.std.proofs.Common.{◌≡◌, ◌≢◌, ℕ, ◌+◌, ◌-◌, ◌<◌, ◌≤◌, Bool, true, false, cond, ◌&&◌, leb, List, [], ◌∷◌, ◌⊎◌, ◌*◌, inl, inr, length, get_or, set, sym, ap, ◌∙◌, subst, refl, arith, Option, Some, None}
use Rattle.std.specs.Prelude.{All, IfSome}
use Rattle.std.proofs.lemmas.Bool.{cases_eq, and_parts, false≢true}
use Rattle.std.specs.Prelude.{not}
use Rattle.std.proofs.lemmas.Bool.Decides.{nat_tests}
use Rattle.std.proofs.lemmas.List.Elements.{All-head, All-tail}
use Rattle.std.proofs.lemmas.List.{get_or-set_same, get_or-set_other, length-set}
use Rattle.roam_cells.specs.Glyph.{Glyph, is_wide, is_right_half, right_of, blank}
use Rattle.roam_cells.specs.Place.{glyph_at, cell_at, IsWholeAt, IsWholeLine, IsWholeRow, AreUnguarded}
use Rattle.roam_screens.specs.Screenshot.{Screenshot, IsScreenshot}
use Rattle.roam_cells.proofs.Places.{place_below}
use Rattle.roam_screens.proofs.Lined.{length-row, row_at}
use Rattle.roam_prediction.specs.Predictions.{IsPrediction, MayStand, is_narrow}
use Rattle.roam_prediction.specs.Overlay.{cursor_line, has_place, with_predictions, with_place}
use Rattle.roam_prediction.specs.declared.predictions.Prediction.{Prediction}
use Rattle.roam_prediction.specs.declared.predictions.Place.{Place}

-- ---- the row of the cursor

line_like : (cols : ℕ) (f g : ℕ → Glyph) → ((c : ℕ) → c < cols → f c ≡ g c) → IsWholeLine cols g → IsWholeLine cols f
line_like cols f g e h =
    λ c p. record {
      wide = λ w. let t = (h c p).wide (ap is_wide (sym (e c p)) ∙ w) in (t.0, e (c + 1) t.0 ∙ t.1 ∙ ap right_of (sym (e c p)));
      half = λ w.
          let t = (h c p).half (ap is_right_half (sym (e c p)) ∙ w) in
          (t.0, ap is_wide (e (c - 1) (omega (arith, p))) ∙ t.1);
    }

module _ (s : Screenshot) (is : IsScreenshot s) where
  pub line_length : length (cursor_line s) ≡ s.cols
  line_length = length-row s.rows s.cols s.cells (s.cursor_row - 1) is.count (omega (arith, is.cursor.row_from, is.cursor.row_to))

  pub line_whole : IsWholeRow (cursor_line s)
  line_whole =
      let r : ℕ = s.cursor_row - 1 in
      let lt : r < s.rows = omega (arith, is.cursor.row_from, is.cursor.row_to) in
      let line : IsWholeLine s.cols (glyph_at (cursor_line s)) =
      line_like s.cols (glyph_at (cursor_line s)) (cell_at s.cols s.cells r) (λ c p. row_at s.cols s.cells r c p) (is.whole r lt) in
      subst (λ (n : ℕ). IsWholeLine n (glyph_at (cursor_line s))) (sym line_length) line

  pub line_unguarded : AreUnguarded (cursor_line s)
  line_unguarded c h =
      let r : ℕ = s.cursor_row - 1 in
      let lt : r < s.rows = omega (arith, is.cursor.row_from, is.cursor.row_to) in
      let in_row : c < s.cols = omega (arith, h, line_length) in
      let there : r * s.cols + c < length s.cells = omega (arith, place_below s.rows s.cols r c lt in_row, is.count) in
      ap (λ (g : Glyph). g.guarded) (row_at s.cols s.cells r c in_row) ∙ is.unguarded (r * s.cols + c) there

-- ---- one cell

not_true : (b : Bool) → not b ≡ true → b ≡ false
not_true true e = sym e
not_true false e = refl

narrow_parts : (g : Glyph) → is_narrow g ≡ true → (is_wide g ≡ false) × (is_right_half g ≡ false)
narrow_parts g e = let both = and_parts (not (is_wide g)) (not (is_right_half g)) e in (not_true _ both.0, not_true _ both.1)

pub record IsPlaceOf (row : List Glyph) (col : ℕ) : Type 0 where
  pub from : 1 ≤ col
  pub to : col ≤ length row
  pub narrow : is_narrow (glyph_at row (col - 1)) ≡ true

pub place_there : (row : List Glyph) (col : ℕ) → has_place row col ≡ true → IsPlaceOf row col
place_there row col e =
    let first = and_parts (leb 1 col) (leb col (length row) && is_narrow (glyph_at row (col - 1))) e in
    let second = and_parts (leb col (length row)) (is_narrow (glyph_at row (col - 1))) first.1 in
    record {
      from = grind (arith, nat_tests, first.0);
      to = grind (arith, nat_tests, second.0);
      narrow = second.1;
    }

-- the cell of a place that had a cell of one column, and the new one
record IsChange (row : List Glyph) (k : ℕ) (x : Glyph) : Type 0 where
  lt : k < length row
  was : is_narrow (glyph_at row k) ≡ true
  now : is_narrow x ≡ true

module _ (row : List Glyph) (k : ℕ) (x : Glyph) (change : IsChange row k x) (whole : IsWholeRow row) where
  same : glyph_at (set row k x) k ≡ x
  same = get_or-set_same row k x blank change.lt

  other : (c : ℕ) → c ≢ k → glyph_at (set row k x) c ≡ glyph_at row c
  other c d = get_or-set_other row k c x blank d

  no_wide : is_wide (glyph_at row k) ≡ false
  no_wide = (narrow_parts (glyph_at row k) change.was).0

  no_half : is_right_half (glyph_at row k) ≡ false
  no_half = (narrow_parts (glyph_at row k) change.was).1

  here : (c : ℕ) → c ≡ k → IsWholeAt (length row) (glyph_at (set row k x)) c
  here c e =
      let new = narrow_parts x change.now in
      let is : glyph_at (set row k x) c ≡ x = ap (glyph_at (set row k x)) e ∙ same in
      record {
        wide = λ w. absurd (false≢true (sym (ap is_wide is ∙ new.0) ∙ w));
        half = λ w. absurd (false≢true (sym (ap is_right_half is ∙ new.1) ∙ w));
      }

  wide_else : (c : ℕ) → c < length row → c ≢ k → is_wide (glyph_at (set row k x) c) ≡ true
      → (c + 1 < length row) × (glyph_at (set row k x) (c + 1) ≡ right_of (glyph_at (set row k x) c))
  wide_else c p d w =
      let t = (whole c p).wide (ap is_wide (sym (other c d)) ∙ w) in
      let is_half : is_right_half (glyph_at row (c + 1)) ≡ true = ap is_right_half t.1 in
      let apart : c + 1 ≢ k = λ e. false≢true (sym no_half ∙ ap (λ j. is_right_half (glyph_at row j)) (sym e) ∙ is_half) in
      (t.0, other (c + 1) apart ∙ t.1 ∙ ap right_of (sym (other c d)))

  half_else : (c : ℕ) → c < length row → c ≢ k → is_right_half (glyph_at (set row k x) c) ≡ true
      → (0 < c) × (is_wide (glyph_at (set row k x) (c - 1)) ≡ true)
  half_else c p d w =
      let t = (whole c p).half (ap is_right_half (sym (other c d)) ∙ w) in
      let apart : c - 1 ≢ k = λ e. false≢true (sym no_wide ∙ ap (λ j. is_wide (glyph_at row j)) (sym e) ∙ t.1) in
      (t.0, ap is_wide (other (c - 1) apart) ∙ t.1)

  each : (c : ℕ) → c < length row → (c ≡ k) ⊎ (c ≢ k) → IsWholeAt (length row) (glyph_at (set row k x)) c
  each c p (inl e) = here c e
  each c p (inr d) = record { wide = wide_else c p d; half = half_else c p d }

  set_whole : IsWholeRow (set row k x)
  set_whole =
      subst (λ (n : ℕ). IsWholeLine n (glyph_at (set row k x))) (sym (length-set row k x)) (λ c p. each c p (cases_eq c k))

set_unguarded : (row : List Glyph) (k : ℕ) (x : Glyph) → k < length row → x.guarded ≡ false → AreUnguarded row
    → AreUnguarded (set row k x)
set_unguarded row k x lt none all c h = by (cases_eq c k)
  where
    by : (c ≡ k) ⊎ (c ≢ k) → (get_or (set row k x) c blank).guarded ≡ false
    by (inl e) = ap (λ j. (get_or (set row k x) j blank).guarded) e ∙ ap (λ (g : Glyph). g.guarded) (get_or-set_same row k x blank lt) ∙ none
    by (inr d) =
        ap (λ (g : Glyph). g.guarded) (get_or-set_other row k c x blank d) ∙ all c (omega (arith, h, length-set row k x))

-- ---- all predicted cells

-- a row that a screen may have
pub record IsRow (cols : ℕ) (row : List Glyph) : Type 0 where
  pub long : length row ≡ cols
  pub whole : IsWholeRow row
  pub unguarded : AreUnguarded row

place_row : (cols : ℕ) (row : List Glyph) (place : Place) (b : Bool) → has_place row place.col ≡ b → MayStand place → IsRow cols row
    → IsRow cols (cond b (set row (place.col - 1) place.cell) row)
place_row cols row place false e may is = is
place_row cols row place true e may is =
    let there = place_there row place.col e in
    let lt : place.col - 1 < length row = omega (arith, there.from, there.to) in
    record {
      long = length-set row (place.col - 1) place.cell ∙ is.long;
      whole = set_whole row (place.col - 1) place.cell (record { lt = lt; was = there.narrow; now = may.narrow }) is.whole;
      unguarded = set_unguarded row (place.col - 1) place.cell lt may.unguarded is.unguarded;
    }

with_place_row : (cols : ℕ) (row : List Glyph) (place : Option Place) → IfSome place MayStand → IsRow cols row
    → IsRow cols (with_place row place)
with_place_row cols row None may is = is
with_place_row cols row (Some place) may is = place_row cols row place (has_place row place.col) refl may is

pub with_predictions_row : (cols : ℕ) (row : List Glyph) (predictions : List Prediction) → All IsPrediction predictions → IsRow cols row
    → IsRow cols (with_predictions row predictions)
with_predictions_row cols row [] all is = is
with_predictions_row cols row (prediction ∷ predictions) all is =
    with_predictions_row cols (with_place row prediction.place) predictions (All-tail IsPrediction prediction predictions all)
    (with_place_row cols row prediction.place (All-head IsPrediction prediction predictions all) is)

pub predicted_row : (s : Screenshot) (predictions : List Prediction) → IsScreenshot s → All IsPrediction predictions
    → IsRow s.cols (with_predictions (cursor_line s) predictions)
predicted_row s predictions is all =
    with_predictions_row s.cols (cursor_line s) predictions all
    (record { long = line_length s is; whole = line_whole s is; unguarded = line_unguarded s is })

pub over_row : (s : Screenshot) (predictions : List Prediction) (cells row : List Glyph) → IsScreenshot s → All IsPrediction predictions
    → cells ≡ with_predictions row predictions → row ≡ cursor_line s → IsRow s.cols cells
over_row s predictions cells row is all e line =
    subst (IsRow s.cols) (sym (e ∙ ap (λ (r : List Glyph). with_predictions r predictions) line)) (predicted_row s predictions is all)
