-- An overlay differs from its screen only at predicted places.
use Rattle.std.proofs.Common.{◌≡◌, ◌≢◌, ◌⊎◌, ℕ, ◌+◌, ◌-◌, ◌*◌, ◌<◌, ◌≤◌, Bool, true, false, cond, ltb, List, [], ◌∷◌, ◌++◌, inl, inr, length, get_or, set, take, drop, Option, Some, None, refl, sym, ap, ◌∙◌, subst, arith}
use Rattle.std.specs.Prelude.{All, IfSome}
use Rattle.std.proofs.lemmas.Bool.{cases_eq, false≢true, eq-eqb, ltb-true}
use Rattle.std.proofs.lemmas.Bool.Decides.{nat_tests}
use Rattle.std.proofs.lemmas.List.{get_or_append_left, get_or-append_right, get_or-take, get_or-drop, get_or-set_same, get_or-set_other, length-take}
use Rattle.std.proofs.lemmas.List.Elements.{All-head, All-tail}
use Rattle.std.proofs.Math.Nat.{mul-le-mul_right}
use Rattle.roam_cells.specs.Glyph.{Glyph, blank}
use Rattle.roam_cells.specs.Place.{glyph_at, cell_at}
use Rattle.roam_cells.proofs.Places.{place_below, row_from}
use Rattle.roam_screens.specs.Lines.{with_row}
use Rattle.roam_screens.specs.Screenshot.{Screenshot, IsScreenshot}
use Rattle.roam_screens.proofs.Lined.{row_at}
use Rattle.roam_prediction.specs.Predictions.{IsPrediction, MayStand, are_shown, is_narrow}
use Rattle.roam_prediction.specs.Laws.{OverlayChangesPredicted}
use Rattle.roam_prediction.specs.Overlay.{cursor_line, predicted, has_place, with_predictions, with_place}
use Rattle.roam_prediction.specs.Typing.{cell_in, latest, or_else, place_in}
use Rattle.roam_prediction.specs.declared.predictions.Prediction.{Prediction}
use Rattle.roam_prediction.specs.declared.predictions.Place.{Place}
use Rattle.roam_prediction.proofs.Whole.{predicted_row, place_there}

-- ---- one row of a screen changed

length_before : (s : Screenshot) (i : ℕ) → IsScreenshot s → i < s.rows → length (take (i * s.cols) s.cells) ≡ i * s.cols
length_before s i is there =
    let most = mul-le-mul_right s.cols there in
    omega (arith, length-take (i * s.cols) s.cells, is.count, most)

-- a row of a screen that is changed, and its new cells
record IsRowOf (s : Screenshot) (i : ℕ) (line : List Glyph) : Type 0 where
  screen : IsScreenshot s
  there : i < s.rows
  long : length line ≡ s.cols

module _ (s : Screenshot) (i : ℕ) (line : List Glyph) (is : IsRowOf s i line) (r c : ℕ) (col : c < s.cols) where
  row_above : r < i → cell_at s.cols (with_row i line s).cells r c ≡ cell_at s.cols s.cells r c
  row_above lt =
      let front = take (i * s.cols) s.cells in
      let back = line ++ drop ((i + 1) * s.cols) s.cells in
      let place = place_below i s.cols r c lt col in
      get_or_append_left front back blank (r * s.cols + c) (omega (arith, place, length_before s i is.screen is.there))
      ∙ get_or-take (i * s.cols) s.cells (r * s.cols + c) blank place

  row_here : r ≡ i → cell_at s.cols (with_row i line s).cells r c ≡ glyph_at line c
  row_here e =
      let front = take (i * s.cols) s.cells in
      let rest = drop ((i + 1) * s.cols) s.cells in
      let same : r * s.cols ≡ i * s.cols = ap (λ n. n * s.cols) e in
      let place : r * s.cols + c - i * s.cols ≡ c = omega (arith, same) in
      get_or-append_right front (line ++ rest) (i * s.cols) (r * s.cols + c) blank (length_before s i is.screen is.there) (omega (arith, same))
      ∙ ap (λ k. get_or (line ++ rest) k blank) place ∙ get_or_append_left line rest blank c (omega (arith, col, is.long))

  row_below : i < r → cell_at s.cols (with_row i line s).cells r c ≡ cell_at s.cols s.cells r c
  row_below lt =
      let front = take (i * s.cols) s.cells in
      let rest = drop ((i + 1) * s.cols) s.cells in
      let k = r * s.cols + c in
      let past : (i + 1) * s.cols ≤ k = row_from s.cols (i + 1) r c (omega (arith, lt)) in
      let next : (i + 1) * s.cols ≡ i * s.cols + s.cols = omega arith in
      let place : (i + 1) * s.cols + (k - i * s.cols - s.cols) ≡ k = omega (arith, past, next) in
      get_or-append_right front (line ++ rest) (i * s.cols) k blank (length_before s i is.screen is.there) (omega (arith, past, next))
      ∙ get_or-append_right line rest s.cols (k - i * s.cols) blank is.long (omega (arith, past, next))
      ∙ get_or-drop ((i + 1) * s.cols) s.cells (k - i * s.cols - s.cols) blank ∙ ap (λ j. get_or s.cells j blank) place

  row_else_by : (b : Bool) → ltb r i ≡ b → r ≢ i → cell_at s.cols (with_row i line s).cells r c ≡ cell_at s.cols s.cells r c
  row_else_by true e d = row_above (ltb-true r i e)
  row_else_by false e d = let from : i ≤ r = grind (arith, nat_tests, e) in row_below (omega (arith, from, d))

  row_else : r ≢ i → cell_at s.cols (with_row i line s).cells r c ≡ cell_at s.cols s.cells r c
  row_else d = row_else_by (ltb r i) refl d

-- ---- one predicted cell

-- a prediction puts its cell into a column, from 0
record IsPut (row : List Glyph) (place : Option Place) (c : ℕ) : Type 0 where
  put : Place
  is : place ≡ Some put
  col : put.col ≡ c + 1
  narrow : is_narrow (glyph_at row c) ≡ true
  cell : glyph_at (with_place row place) c ≡ put.cell

put_by : (row : List Glyph) (place : Place) (c : ℕ) (b : Bool) → has_place row place.col ≡ b
    → (glyph_at (cond b (set row (place.col - 1) place.cell) row) c ≡ glyph_at row c) ⊎ ((place.col ≡ c + 1)
    × (is_narrow (glyph_at row c) ≡ true) × (glyph_at (cond b (set row (place.col - 1) place.cell) row) c ≡ place.cell))
put_by row place c false e = inl refl
put_by row place c true e =
    let there = place_there row place.col e in
    let lt : place.col - 1 < length row = omega (arith, there.from, there.to) in
    elim (cases_eq c (place.col - 1)) [
      | inl same ↦
          inr (
            omega (arith, same, there.from),
            ap (λ k. is_narrow (glyph_at row k)) same ∙ there.narrow,
            ap (glyph_at (set row (place.col - 1) place.cell)) same ∙ get_or-set_same row (place.col - 1) place.cell blank lt,
          )
      | inr d ↦ inl (get_or-set_other row (place.col - 1) c place.cell blank d)
    ]

put_or_same : (row : List Glyph) (place : Option Place) (c : ℕ) → (glyph_at (with_place row place) c ≡ glyph_at row c) ⊎ IsPut row place c
put_or_same row None c = inl refl
put_or_same row (Some place) c = elim (put_by row place c (has_place row place.col) refl) [
  | inl same ↦ inl same
  | inr put ↦ inr (record { put = place; is = refl; col = put.0; narrow = put.1; cell = put.2 })
]

-- ---- all predicted cells

or_none : (a b : Option Glyph) → or_else a b ≡ None → (a ≡ None) × (b ≡ None)
or_none None b e = (refl, e)
or_none (Some cell) b e = absurd cc

no_place : (place : Place) (c : ℕ) → place_in (Some place) c ≡ None → place.col ≢ c
no_place place c e h =
    let there : place_in (Some place) c ≡ Some place.cell = ap (λ b. cond b (Some place.cell) None) (eq-eqb place.col c h) in
    let other : None ≡ Some place.cell = sym e ∙ there in
    absurd cc

not_put : (row : List Glyph) (place : Option Place) (c : ℕ) → place_in place (c + 1) ≡ None → IsPut row place c → ⊥
not_put row place c e put =
    no_place put.put (c + 1) (ap (λ (o : Option Place). place_in o (c + 1)) (sym put.is) ∙ e) put.col

place_unpredicted : (row : List Glyph) (prediction : Prediction) (c : ℕ) → cell_in prediction (c + 1) ≡ None
    → glyph_at (with_place row prediction.place) c ≡ glyph_at row c
place_unpredicted row prediction c e = elim (put_or_same row prediction.place c) [
  | inl same ↦ same
  | inr put ↦ absurd (not_put row prediction.place c e put)
]

row_unpredicted : (row : List Glyph) (predictions : List Prediction) (c : ℕ) → latest predictions (c + 1) ≡ None
    → glyph_at (with_predictions row predictions) c ≡ glyph_at row c
row_unpredicted row [] c e = refl
row_unpredicted row (prediction ∷ predictions) c e =
    let both = or_none (latest predictions (c + 1)) (cell_in prediction (c + 1)) e in
    row_unpredicted (with_place row prediction.place) predictions c both.0 ∙ place_unpredicted row prediction c both.1

place_wide : (row : List Glyph) (place : Option Place) (c : ℕ) → is_narrow (glyph_at row c) ≡ false
    → glyph_at (with_place row place) c ≡ glyph_at row c
place_wide row place c e = elim (put_or_same row place c) [
  | inl same ↦ same
  | inr put ↦ absurd (false≢true (sym e ∙ put.narrow))
]

row_wide : (row : List Glyph) (predictions : List Prediction) (c : ℕ) → is_narrow (glyph_at row c) ≡ false
    → glyph_at (with_predictions row predictions) c ≡ glyph_at row c
row_wide row [] c e = refl
row_wide row (prediction ∷ predictions) c e =
    let first = place_wide row prediction.place c e in
    row_wide (with_place row prediction.place) predictions c (ap is_narrow first ∙ e) ∙ first

may_narrow : (place : Option Place) (put : Place) → place ≡ Some put → IfSome place MayStand → is_narrow put.cell ≡ true
may_narrow place put e may = (subst (λ (o : Option Place). IfSome o MayStand) e may).narrow

place_narrow : (row : List Glyph) (place : Option Place) (c : ℕ) → IfSome place MayStand → is_narrow (glyph_at row c) ≡ true
    → is_narrow (glyph_at (with_place row place) c) ≡ true
place_narrow row place c may e = elim (put_or_same row place c) [
  | inl same ↦ ap is_narrow same ∙ e
  | inr put ↦ ap is_narrow put.cell ∙ may_narrow place put.put put.is may
]

row_narrow : (row : List Glyph) (predictions : List Prediction) (c : ℕ) → All IsPrediction predictions → is_narrow (glyph_at row c) ≡ true
    → is_narrow (glyph_at (with_predictions row predictions) c) ≡ true
row_narrow row [] c all e = e
row_narrow row (prediction ∷ predictions) c all e =
    row_narrow (with_place row prediction.place) predictions c (All-tail IsPrediction prediction predictions all)
    (place_narrow row prediction.place c (All-head IsPrediction prediction predictions all) e)

-- ---- the screen

-- a screen that is shown in place of another
record Changes (predictions : List Prediction) (s t : Screenshot) : Type 0 where
  rows : t.rows ≡ s.rows
  cols : t.cols ≡ s.cols
  cursor_row : t.cursor_row ≡ s.cursor_row
  visible : t.visible ≡ s.visible
  other_rows : (r c : ℕ) → r < s.rows → c < s.cols → r + 1 ≢ s.cursor_row → cell_at s.cols t.cells r c ≡ cell_at s.cols s.cells r c
  unpredicted : (r c : ℕ) → r < s.rows → c < s.cols → latest predictions (c + 1) ≡ None
      → cell_at s.cols t.cells r c ≡ cell_at s.cols s.cells r c
  wide : (r c : ℕ) → r < s.rows → c < s.cols → is_narrow (cell_at s.cols s.cells r c) ≡ false
      → cell_at s.cols t.cells r c ≡ cell_at s.cols s.cells r c
  narrow : (r c : ℕ) → r < s.rows → c < s.cols → is_narrow (cell_at s.cols s.cells r c) ≡ true
      → is_narrow (cell_at s.cols t.cells r c) ≡ true

unchanged : (predictions : List Prediction) (s : Screenshot) → Changes predictions s s
unchanged predictions s = record {
  rows = refl;
  cols = refl;
  cursor_row = refl;
  visible = refl;
  other_rows = λ r c p q d. refl;
  unpredicted = λ r c p q e. refl;
  wide = λ r c p q e. refl;
  narrow = λ r c p q e. e;
}

module _ (predictions : List Prediction) (s : Screenshot) (is : IsScreenshot s) (all : All IsPrediction predictions) where
  on_screen : s.cursor_row - 1 < s.rows
  on_screen = omega (arith, is.cursor.row_from, is.cursor.row_to)

  row_is : IsRowOf s (s.cursor_row - 1) (with_predictions (cursor_line s) predictions)
  row_is = record { screen = is; there = on_screen; long = (predicted_row s predictions is all).long }

  else_same : (r c : ℕ) → c < s.cols → r ≢ s.cursor_row - 1
      → cell_at s.cols (predicted s predictions).cells r c ≡ cell_at s.cols s.cells r c
  else_same r c q d = row_else s (s.cursor_row - 1) (with_predictions (cursor_line s) predictions) row_is r c q d

  here_is : (r c : ℕ) → c < s.cols → r ≡ s.cursor_row - 1
      → cell_at s.cols (predicted s predictions).cells r c ≡ glyph_at (with_predictions (cursor_line s) predictions) c
  here_is r c q e = row_here s (s.cursor_row - 1) (with_predictions (cursor_line s) predictions) row_is r c q e

  line_is : (r c : ℕ) → c < s.cols → r ≡ s.cursor_row - 1 → glyph_at (cursor_line s) c ≡ cell_at s.cols s.cells r c
  line_is r c q e = row_at s.cols s.cells (s.cursor_row - 1) c q ∙ ap (λ k. cell_at s.cols s.cells k c) (sym e)

  by_row : (r c : ℕ) → c < s.cols
      → (glyph_at (with_predictions (cursor_line s) predictions) c ≡ glyph_at (cursor_line s) c)
      → cell_at s.cols (predicted s predictions).cells r c ≡ cell_at s.cols s.cells r c
  by_row r c q same = elim (cases_eq r (s.cursor_row - 1)) [
    | inl e ↦ here_is r c q e ∙ same ∙ line_is r c q e
    | inr d ↦ else_same r c q d
  ]

  wide_same : (r c : ℕ) → c < s.cols → is_narrow (cell_at s.cols s.cells r c) ≡ false
      → cell_at s.cols (predicted s predictions).cells r c ≡ cell_at s.cols s.cells r c
  wide_same r c q w = elim (cases_eq r (s.cursor_row - 1)) [
    | inl e ↦
        here_is r c q e ∙ row_wide (cursor_line s) predictions c (ap is_narrow (line_is r c q e) ∙ w) ∙ line_is r c q e
    | inr d ↦ else_same r c q d
  ]

  narrow_stays : (r c : ℕ) → c < s.cols → is_narrow (cell_at s.cols s.cells r c) ≡ true
      → is_narrow (cell_at s.cols (predicted s predictions).cells r c) ≡ true
  narrow_stays r c q n = elim (cases_eq r (s.cursor_row - 1)) [
    | inl e ↦
        ap is_narrow (here_is r c q e) ∙ row_narrow (cursor_line s) predictions c all (ap is_narrow (line_is r c q e) ∙ n)
    | inr d ↦ ap is_narrow (else_same r c q d) ∙ n
  ]

  changed : Changes predictions s (predicted s predictions)
  changed = record {
    rows = refl;
    cols = refl;
    cursor_row = refl;
    visible = refl;
    other_rows = λ r c p q d. else_same r c q (λ e. d (omega (arith, e, is.cursor.row_from)));
    unpredicted = λ r c p q e. by_row r c q (row_unpredicted (cursor_line s) predictions c e);
    wide = λ r c p q e. wide_same r c q e;
    narrow = λ r c p q e. narrow_stays r c q e;
  }

shown_by : (predictions : List Prediction) (s : Screenshot) (b : Bool) → IsScreenshot s → All IsPrediction predictions
    → Changes predictions s (cond b (predicted s predictions) s)
shown_by predictions s true is all = changed predictions s is all
shown_by predictions s false is all = unchanged predictions s

pub overlay_changes_predicted : OverlayChangesPredicted
overlay_changes_predicted predictions s is all =
    let h = shown_by predictions.list s (are_shown predictions) is all in
    record {
      rows = h.rows;
      cols = h.cols;
      cursor_row = h.cursor_row;
      visible = h.visible;
      other_rows = h.other_rows;
      unpredicted = h.unpredicted;
      wide = h.wide;
      narrow = h.narrow;
    }
