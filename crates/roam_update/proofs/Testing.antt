-- The test on a value is true exactly for a screen that can be shown.
use Rattle.std.proofs.Common.{◌≡◌, ℕ, zero, suc, ◌+◌, ◌-◌, ◌*◌, ◌<◌, Bool, true, false, not, cond, eqb, ltb, leb, ◌&&◌, List, [], ◌∷◌, length, refl, sym, ap, ◌∙◌, arith, inl, inr}
use Rattle.std.specs.Prelude.{All}
use Rattle.std.specs.Char.{IsScalar}
use Rattle.std.specs.List.{list_all}
use Rattle.std.proofs.lemmas.Bool.{and_parts, and_from, cases_lt, eqb-true, eq-eqb, false≢true, le-leb, leb-true, lt-ltb, ltb-true, false_from_ne_true}
use Rattle.std.proofs.lemmas.Bool.Decides.{nat_tests}
use Rattle.std.proofs.lemmas.List.Elements.{All-head, All-tail, All-cons, All-nil, All-get_or, All-from_get_or}
use Rattle.std.proofs.Math.Utf8.{scalar_cases}
use Rattle.roam_cells.specs.Glyph.{Glyph, is_wide, is_right_half, is_wide_text, is_empty_text, right_of, is_text, IsColour, IsStyle, blank}
use Rattle.roam_cells.specs.declared.styles.Style.{Style}
use Rattle.roam_cells.specs.declared.styles.Colour.{Colour}
use Rattle.roam_cells.specs.declared.styles.Colour.TheVariants.{Default, Index, Rgb}
use Rattle.roam_cells.specs.Limits.{IsSize}
use Rattle.roam_screens.specs.Narrow.{IsOldScreenshot, is_plain_style}
use Rattle.roam_cells.specs.Place.{cell_at, IsWholeAt, AreWhole, AreShown, AreUnguarded}
use Rattle.roam_screens.specs.Screenshot.{Screenshot, IsScreenshot, IsPlace}
use Rattle.roam_cells.specs.Same.{same}
use Rattle.roam_update.specs.CellText.{IsPlain, is_scalar, is_colour, is_style}
use Rattle.roam_update.specs.Tested.{all_below, is_size, is_place, is_whole_at, are_whole, is_plain, is_screenshot, is_old_screenshot}
use Rattle.roam_cells.proofs.SameCells.{glyph_same, same_glyph}

-- ---- each number below n, each element

all_each : (n : ℕ) (test : ℕ → Bool) → all_below n test ≡ true → (k : ℕ) → k < n → test k ≡ true
unfolding all_below
all_each zero test h k p = absurd (omega arith)
all_each (suc n) test h k p =
    let parts = and_parts (all_below n test) (test n) h in
    elim (cases_lt k n) [
      | inl q ↦ all_each n test parts.0 k q
      | inr q ↦ let same : k ≡ n = omega arith in ap test same ∙ parts.1
    ]

each_all : (n : ℕ) (test : ℕ → Bool) → ((k : ℕ) → k < n → test k ≡ true) → all_below n test ≡ true
unfolding all_below
each_all zero test h = refl
each_all (suc n) test h = and_from (all_below n test) (test n) (each_all n test (λ k p. h k (omega (arith, p)))) (h n (omega arith))

module _ {X : Type 0} (test : X → Bool) (P : X → Type 0) where
  pub list_each : ((x : X) → test x ≡ true → P x) → (xs : List X) → list_all test xs ≡ true → All P xs
  list_each says [] h = All-nil P
  list_each says (x ∷ xs) h =
      let parts = and_parts (test x) (list_all test xs) h in
      All-cons P x xs (says x parts.0) (list_each says xs parts.1)

  pub each_list : ((x : X) → P x → test x ≡ true) → (xs : List X) → All P xs → list_all test xs ≡ true
  each_list says [] h = refl
  each_list says (x ∷ xs) h = and_from (test x) (list_all test xs) (says x (All-head P x xs h)) (each_list says xs (All-tail P x xs h))

-- ---- a Unicode scalar value

pub scalar_is : (c : ℕ) → is_scalar c ≡ true → IsScalar c
scalar_is c e = grind (arith, nat_tests)

pub is_scalar_of : (c : ℕ) → IsScalar c → is_scalar c ≡ true
is_scalar_of c h =
    elim (scalar_cases c h) [
      | inl p ↦ grind (arith, nat_tests)
      | inr p ↦ grind (arith, nat_tests)
    ]

-- ---- a cell

colour_is : (c : Colour) → is_colour c ≡ true → IsColour c
colour_is Default e = tt
colour_is (Index n) e = leb-true n 255 e
colour_is (Rgb r g b) e =
    let more = and_parts (leb r 255) (leb g 255 && leb b 255) e in
    let last = and_parts (leb g 255) (leb b 255) more.1 in
    (leb-true r 255 more.0, leb-true g 255 last.0, leb-true b 255 last.1)

is_colour_of : (c : Colour) → IsColour c → is_colour c ≡ true
is_colour_of Default h = refl
is_colour_of (Index n) h = le-leb n 255 h
is_colour_of (Rgb r g b) h =
    and_from (leb r 255) (leb g 255 && leb b 255) (le-leb r 255 h.0)
    (and_from (leb g 255) (leb b 255) (le-leb g 255 h.1) (le-leb b 255 h.2))

pub style_is : (s : Style) → is_style s ≡ true → IsStyle s
style_is s e =
    let both = and_parts (is_colour s.foreground) (is_colour s.background) e in
    record { foreground = colour_is s.foreground both.0; background = colour_is s.background both.1 }

pub is_style_of : (s : Style) → IsStyle s → is_style s ≡ true
is_style_of s h =
    and_from (is_colour s.foreground) (is_colour s.background) (is_colour_of s.foreground h.foreground) (is_colour_of s.background h.background)

not_guarded : (b : Bool) → not b ≡ true → b ≡ false
not_guarded false e = refl
not_guarded true e = absurd (false≢true e)

pub plain_is : (g : Glyph) → is_plain g ≡ true → IsPlain g
plain_is g e =
    let a = and_parts (is_text g.points) _ e in
    let b = and_parts (list_all is_scalar g.points) _ a.1 in
    let c = and_parts (is_style g.style) (not g.guarded) b.1 in
    record {
      shown = record { text = a.0; scalars = list_each is_scalar IsScalar scalar_is g.points b.0; style = style_is g.style c.0 };
      unguarded = not_guarded g.guarded c.1;
    }

pub is_plain_of : (g : Glyph) → IsPlain g → is_plain g ≡ true
is_plain_of g h =
    and_from (is_text g.points) _ h.shown.text
    (and_from (list_all is_scalar g.points) _ (each_list is_scalar IsScalar is_scalar_of g.points h.shown.scalars)
    (and_from (is_style g.style) (not g.guarded) (is_style_of g.style h.shown.style) (ap not h.unguarded)))

-- ---- a size, a place

pub size_is : (rows cols : ℕ) → is_size rows cols ≡ true → IsSize rows cols
size_is rows cols e =
    let a = and_parts (leb 2 rows) _ e in
    let b = and_parts (leb rows 200) _ a.1 in
    let c = and_parts (leb 4 cols) (leb cols 500) b.1 in
    record { least_rows = leb-true _ _ a.0; most_rows = leb-true _ _ b.0; least_columns = leb-true _ _ c.0; most_columns = leb-true _ _ c.1 }

pub is_size_of : (rows cols : ℕ) → IsSize rows cols → is_size rows cols ≡ true
is_size_of rows cols h =
    rw (le-leb 2 rows h.least_rows, le-leb rows 200 h.most_rows, le-leb 4 cols h.least_columns, le-leb cols 500 h.most_columns) refl

place_is : (rows cols row col : ℕ) → is_place rows cols row col ≡ true → IsPlace rows cols row col
place_is rows cols row col e =
    let a = and_parts (leb 1 row) _ e in
    let b = and_parts (leb row rows) _ a.1 in
    let c = and_parts (leb 1 col) (leb col cols) b.1 in
    record { row_from = leb-true _ _ a.0; row_to = leb-true _ _ b.0; col_from = leb-true _ _ c.0; col_to = leb-true _ _ c.1 }

is_place_of : (rows cols row col : ℕ) → IsPlace rows cols row col → is_place rows cols row col ≡ true
is_place_of rows cols row col h =
    rw (le-leb 1 row h.row_from, le-leb row rows h.row_to, le-leb 1 col h.col_from, le-leb col cols h.col_to) refl

-- ---- whole characters

-- a wide cell has a code point
of_points : (ps : List ℕ) → is_wide_text ps ≡ true → is_empty_text ps ≡ true → ⊥
of_points [] a b = false≢true a
of_points (p ∷ ps) a b = false≢true b

both_kinds : (g : Glyph) → is_wide g ≡ true → is_right_half g ≡ true → ⊥
both_kinds g a b = of_points g.points a b

module _ (cols : ℕ) (at : ℕ → Glyph) (c : ℕ) where
  abbrev wide_ok : Bool
  wide_ok = ltb (c + 1) cols && same (at (c + 1)) (right_of (at c))

  abbrev half_ok : Bool
  half_ok = ltb 0 c && is_wide (at (c - 1))

  whole_by : (w h : Bool) → is_wide (at c) ≡ w → is_right_half (at c) ≡ h → cond w wide_ok (cond h half_ok true) ≡ true → IsWholeAt cols at c
  whole_by true true a b e = absurd (both_kinds (at c) a b)
  whole_by true false a b e =
      let parts = and_parts (ltb (c + 1) cols) (same (at (c + 1)) (right_of (at c))) e in
      record {
        wide = λ _. (ltb-true (c + 1) cols parts.0, glyph_same _ _ parts.1);
        half = λ k. absurd (false≢true (sym b ∙ k));
      }
  whole_by false true a b e =
      let parts = and_parts (ltb 0 c) (is_wide (at (c - 1))) e in
      record {
        wide = λ k. absurd (false≢true (sym a ∙ k));
        half = λ _. (ltb-true 0 c parts.0, parts.1);
      }
  whole_by false false a b e = record { wide = λ k. absurd (false≢true (sym a ∙ k)); half = λ k. absurd (false≢true (sym b ∙ k)) }

  by_whole : (w h : Bool) → is_wide (at c) ≡ w → is_right_half (at c) ≡ h → IsWholeAt cols at c → cond w wide_ok (cond h half_ok true) ≡ true
  by_whole true h a b e =
      and_from (ltb (c + 1) cols) (same (at (c + 1)) (right_of (at c))) (lt-ltb (c + 1) cols (e.wide a).0) (same_glyph _ _ (e.wide a).1)
  by_whole false true a b e = and_from (ltb 0 c) (is_wide (at (c - 1))) (lt-ltb 0 c (e.half b).0) (e.half b).1
  by_whole false false a b e = refl

  whole_is : is_whole_at cols at c ≡ true → IsWholeAt cols at c
  whole_is e = whole_by (is_wide (at c)) (is_right_half (at c)) refl refl e

  is_whole_of : IsWholeAt cols at c → is_whole_at cols at c ≡ true
  is_whole_of e = by_whole (is_wide (at c)) (is_right_half (at c)) refl refl e

pub are_whole_are : (rows cols : ℕ) (cells : List Glyph) → are_whole rows cols cells ≡ true → AreWhole rows cols cells
are_whole_are rows cols cells e r p c q =
    whole_is cols (cell_at cols cells r) c
    (all_each cols (λ k. is_whole_at cols (cell_at cols cells r) k) (all_each rows (λ n. all_below cols (λ k. is_whole_at cols (cell_at cols cells n) k)) e r p) c q)

pub are_whole_of : (rows cols : ℕ) (cells : List Glyph) → AreWhole rows cols cells → are_whole rows cols cells ≡ true
are_whole_of rows cols cells h =
    each_all rows (λ n. all_below cols (λ k. is_whole_at cols (cell_at cols cells n) k)) (λ r p.
    each_all cols (λ k. is_whole_at cols (cell_at cols cells r) k) (λ c q. is_whole_of cols (cell_at cols cells r) c (h r p c q)))

-- ---- cells

pub all_plain : (cells : List Glyph) → AreShown cells → AreUnguarded cells → All IsPlain cells
all_plain cells shown unguarded = All-from_get_or IsPlain cells blank (λ k p. record { shown = shown k p; unguarded = unguarded k p })

-- ---- a screen

pub screenshot_is : (s : Screenshot) → is_screenshot s ≡ true → IsScreenshot s
screenshot_is s e =
    let a = and_parts (is_size s.rows s.cols) _ e in
    let b = and_parts (is_place s.rows s.cols s.cursor_row s.cursor_col) _ a.1 in
    let c = and_parts (eqb (length s.cells) (s.rows * s.cols)) _ b.1 in
    let d = and_parts (are_whole s.rows s.cols s.cells) (list_all is_plain s.cells) c.1 in
    let plain = list_each is_plain IsPlain plain_is s.cells d.1 in
    record {
      size = size_is s.rows s.cols a.0;
      count = eqb-true _ _ c.0;
      cursor = place_is s.rows s.cols s.cursor_row s.cursor_col b.0;
      whole = are_whole_are s.rows s.cols s.cells d.0;
      unguarded = λ k p. (All-get_or IsPlain s.cells k blank p plain).unguarded;
      shown = λ k p. (All-get_or IsPlain s.cells k blank p plain).shown;
    }

pub is_screenshot_of : (s : Screenshot) → IsScreenshot s → is_screenshot s ≡ true
is_screenshot_of s h =
    and_from (is_size s.rows s.cols) _ (is_size_of s.rows s.cols h.size)
    (and_from (is_place s.rows s.cols s.cursor_row s.cursor_col) _ (is_place_of s.rows s.cols s.cursor_row s.cursor_col h.cursor)
    (and_from (eqb (length s.cells) (s.rows * s.cols)) _ (eq-eqb _ _ h.count)
    (and_from (are_whole s.rows s.cols s.cells) (list_all is_plain s.cells) (are_whole_of s.rows s.cols s.cells h.whole)
    (each_list is_plain IsPlain is_plain_of s.cells (all_plain s.cells h.shown h.unguarded)))))

pub no_screenshot : (s : Screenshot) → ¬ IsScreenshot s → is_screenshot s ≡ false
no_screenshot s h = false_from_ne_true (is_screenshot s) (λ e. h (screenshot_is s e))

-- ---- a screen of version 1

pub old_screenshot_is : (s : Screenshot) → is_old_screenshot s ≡ true → IsOldScreenshot s
old_screenshot_is s e =
    let a = and_parts (is_screenshot s) _ e in
    let b = and_parts (leb s.rows 100) _ a.1 in
    let c = and_parts (leb s.cols 250) (list_all (λ (g : Glyph). is_plain_style g.style) s.cells) b.1 in
    let plain = list_each (λ (g : Glyph). is_plain_style g.style) (λ (g : Glyph). is_plain_style g.style ≡ true) (λ g h. h) s.cells c.1 in
    record {
      screenshot = screenshot_is s a.0;
      rows = leb-true _ _ b.0;
      cols = leb-true _ _ c.0;
      plain = λ k p. All-get_or (λ (g : Glyph). is_plain_style g.style ≡ true) s.cells k blank p plain;
    }

pub is_old_screenshot_of : (s : Screenshot) → IsOldScreenshot s → is_old_screenshot s ≡ true
is_old_screenshot_of s h =
    and_from (is_screenshot s) _ (is_screenshot_of s h.screenshot)
    (and_from (leb s.rows 100) _ (le-leb s.rows 100 h.rows)
    (and_from (leb s.cols 250) (list_all (λ (g : Glyph). is_plain_style g.style) s.cells) (le-leb s.cols 250 h.cols)
    (each_list (λ (g : Glyph). is_plain_style g.style) (λ (g : Glyph). is_plain_style g.style ≡ true) (λ g k. k) s.cells
    (All-from_get_or (λ (g : Glyph). is_plain_style g.style ≡ true) s.cells blank h.plain))))

pub no_old_screenshot : (s : Screenshot) → ¬ IsOldScreenshot s → is_old_screenshot s ≡ false
no_old_screenshot s h = false_from_ne_true (is_old_screenshot s) (λ e. h (old_screenshot_is s e))
