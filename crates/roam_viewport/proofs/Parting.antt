-- A part of a screen is a screen.
use Rattle.std.proofs.Common.{◌≡◌, ℕ, ◌+◌, ◌-◌, ◌*◌, ◌/◌, ◌%◌, ◌<◌, ◌≤◌, min, max, Bool, true, false, eqb, ltb, leb, ◌&&◌, ◌||◌, List, [], ◌∷◌, ◌++◌, map, length, get_or, refl, sym, ap, subst, ◌∙◌, arith, inl, inr}
use Rattle.std.specs.List.{range_with_len}
use Rattle.std.proofs.lemmas.Bool.{cases_Bool, false≢true, eqb-false, ne_eqb, and_parts, ltb-true, lt-ltb, le-leb}
use Rattle.roam_cells.specs.Glyph.{Glyph, IsShown, is_wide, is_right_half, right_of, space_in, blank}
use Rattle.roam_cells.specs.Limits.{IsSize}
use Rattle.roam_cells.specs.Place.{cell_at, table, row_of, IsWholeAt, AreWhole}
use Rattle.roam_cells.proofs.Places.{length-table, get_or-table, place_of, place_below, table_is}
use Rattle.roam_cells.proofs.CellLists.{is_wide-blank, space_in_shown, blank_shown}
use Rattle.roam_screens.specs.Lines.{cells_in_order, screen_of}
use Rattle.roam_screens.specs.Screenshot.{Screenshot, IsScreenshot}
use Rattle.roam_screens.proofs.Lined.{row_at, length-row}
use Rattle.roam_screens.proofs.Narrowed.{table_none, table_more, row_more}
use Rattle.roam_viewport.specs.Parts.{cursor_in, cut_glyph, glyph_or_blank, is_inside, is_left_out, is_masked, is_right_out, part_at, part_of, WholeIsScreen}
use Rattle.roam_viewport.specs.declared.parts.Part.{Part}

-- ---- loops

pub row_on : (f : ℕ → Glyph) (n : ℕ) → map f (range_with_len 0 n) ++ f n ∷ [] ≡ map f (range_with_len 0 (n + 1))
row_on f n = row_more [] f n

-- ---- one cell

or_false : (a b : Bool) → (a || b) ≡ false → (a ≡ false) × (b ≡ false)
or_false true b e = absurd (false≢true (sym e))
or_false false b e = (refl, e)

none_and : (a b : Bool) → b ≡ false → (a && b) ≡ false
none_and true b e = e
none_and false b e = refl

and_none : (a b : Bool) → (a && b) ≡ false → b ≡ true → a ≡ false
and_none true b e w = absurd (false≢true (sym e ∙ w))
and_none false b e w = refl

kept : (left right : Bool) (g : Glyph) → (left && is_right_half g) ≡ false → (right && is_wide g) ≡ false → cut_glyph left right g ≡ g
kept left right g a b = rw (a, b) refl

-- a cell with a property that no space has was not cut
not_cut : (left right : Bool) (g : Glyph) (P : Glyph → Bool) → P (space_in g) ≡ false → P (cut_glyph left right g) ≡ true
    → ((left && is_right_half g) ≡ false) × ((right && is_wide g) ≡ false)
not_cut left right g P none h =
    elim (cases_Bool ((left && is_right_half g) || (right && is_wide g))) [
      | inl e ↦ let yes : P (space_in g) ≡ true = rw e at h in absurd (false≢true (sym none ∙ yes))
      | inr e ↦ or_false (left && is_right_half g) (right && is_wide g) e
    ]

wide_points : (p : List ℕ) → Rattle.roam_cells.specs.Glyph.is_wide_text p ≡ true → Rattle.roam_cells.specs.Glyph.is_empty_text p ≡ false
wide_points [] w = absurd (false≢true w)
wide_points (c ∷ cs) w = refl

cut_shown : (left right : Bool) (g : Glyph) → IsShown g → IsShown (cut_glyph left right g)
cut_shown left right g h =
    elim (cases_Bool ((left && is_right_half g) || (right && is_wide g))) [
      | inl e ↦ rw e (space_in_shown g h)
      | inr e ↦ rw e h
    ]

cut_guard : (left right : Bool) (g : Glyph) → (cut_glyph left right g).guarded ≡ g.guarded
cut_guard left right g =
    elim (cases_Bool ((left && is_right_half g) || (right && is_wide g))) [
      | inl e ↦ rw e refl
      | inr e ↦ rw e refl
    ]

-- ---- a screen, and blanks round it

module _ (s : Screenshot) (h : IsScreenshot s) where
  abbrev there : ℕ → ℕ → Bool
  there r c = ltb r s.rows && ltb c s.cols

  within : (r c : ℕ) → there r c ≡ true → (r < s.rows) × (c < s.cols)
  within r c e = let both = and_parts (ltb r s.rows) (ltb c s.cols) e in (ltb-true r s.rows both.0, ltb-true c s.cols both.1)

  cell_there : (r c : ℕ) → r < s.rows → c < s.cols → glyph_or_blank s r c ≡ cell_at s.cols s.cells r c
  cell_there r c p q = rw (lt-ltb r s.rows p, lt-ltb c s.cols q) refl

  wide_there : (r c : ℕ) → is_wide (glyph_or_blank s r c) ≡ true → glyph_or_blank s r (c + 1) ≡ right_of (glyph_or_blank s r c)
  wide_there r c w =
      elim (cases_Bool (there r c)) [
        | inl e ↦
            let at = within r c e in
            let is = cell_there r c at.0 at.1 in
            let both = (h.whole r at.0 c at.1).wide (ap is_wide (sym is) ∙ w) in
            cell_there r (c + 1) at.0 both.0 ∙ both.1 ∙ ap right_of (sym is)
        | inr e ↦ let no : is_wide blank ≡ true = rw e at w in absurd (false≢true (sym is_wide-blank ∙ no))
      ]

  half_there : (r c : ℕ) → is_right_half (glyph_or_blank s r c) ≡ true → (0 < c) × (is_wide (glyph_or_blank s r (c - 1)) ≡ true)
  half_there r c w =
      elim (cases_Bool (there r c)) [
        | inl e ↦
            let at = within r c e in
            let is = cell_there r c at.0 at.1 in
            let both = (h.whole r at.0 c at.1).half (ap is_right_half (sym is) ∙ w) in
            (both.0, ap is_wide (cell_there r (c - 1) at.0 (omega (arith, at.1))) ∙ both.1)
        | inr e ↦ let no : false ≡ true = rw e at w in absurd (false≢true no)
      ]

  shown_there : (r c : ℕ) → IsShown (glyph_or_blank s r c)
  shown_there r c =
      elim (cases_Bool (there r c)) [
        | inl e ↦
            let at = within r c e in
            let below = place_below s.rows s.cols r c at.0 at.1 in
            rw e (h.shown (r * s.cols + c) (omega (arith, below, h.count)))
        | inr e ↦ rw e blank_shown
      ]

  guard_there : (r c : ℕ) → (glyph_or_blank s r c).guarded ≡ false
  guard_there r c =
      elim (cases_Bool (there r c)) [
        | inl e ↦
            let at = within r c e in
            let below = place_below s.rows s.cols r c at.0 at.1 in
            rw e (h.unguarded (r * s.cols + c) (omega (arith, below, h.count)))
        | inr e ↦ rw e refl
      ]

  -- ---- a part of it

  module _ (part : Part) (masks : List Part) where
    abbrev at : ℕ → ℕ → Glyph
    at r c = part_at part masks s r c

    abbrev from : ℕ → ℕ → Glyph
    from r c = glyph_or_blank s (part.row + r) (part.col + c)

    abbrev left : ℕ → ℕ → Bool
    left r c = is_left_out masks r c

    abbrev right : ℕ → ℕ → Bool
    right r c = is_right_out part.cols masks r c

    unmasked : (r c : ℕ) → is_masked masks r c ≡ false → at r c ≡ cut_glyph (left r c) (right r c) (from r c)
    unmasked r c e = rw e refl

    -- a cell with a property that no blank has is none of a mask
    not_masked : (r c : ℕ) (P : Glyph → Bool) → P blank ≡ false → P (at r c) ≡ true → is_masked masks r c ≡ false
    not_masked r c P none w =
        elim (cases_Bool (is_masked masks r c)) [
          | inl e ↦ let yes : P blank ≡ true = rw e at w in absurd (false≢true (sym none ∙ yes))
          | inr e ↦ e
        ]

    wide_at : (r c : ℕ) → c < part.cols → is_wide (at r c) ≡ true → (c + 1 < part.cols) × (at r (c + 1) ≡ right_of (at r c))
    wide_at r c q w =
        let bare = not_masked r c is_wide is_wide-blank w in
        let is = unmasked r c bare in
        let g = from r c in
        let whole = not_cut (left r c) (right r c) g is_wide is_wide-blank (ap is_wide (sym is) ∙ w) in
        let here : at r c ≡ g = is ∙ kept (left r c) (right r c) g whole.0 whole.1 in
        let wide : is_wide g ≡ true = ap is_wide (sym here) ∙ w in
        let free = or_false (eqb (c + 1) part.cols) (is_masked masks r (c + 1)) (and_none (right r c) (is_wide g) whole.1 wide) in
        let other : ¬ (c + 1 ≡ part.cols) = eqb-false (c + 1) part.cols free.0 in
        let place : part.col + (c + 1) ≡ part.col + c + 1 = omega arith in
        let next : from r (c + 1) ≡ right_of g = ap (λ (k : ℕ). glyph_or_blank s (part.row + r) k) place ∙ wide_there (part.row + r) (part.col + c) wide in
        let back : c + 1 - 1 ≡ c = omega arith in
        let kept_left : left r (c + 1) ≡ false =
        ap (λ (b : Bool). b || is_masked masks r (c + 1 - 1)) (ne_eqb (c + 1) 0 (λ n. omega (arith, n))) ∙ ap (λ (k : ℕ). is_masked masks r k) back ∙ bare in
        let narrow : is_wide (from r (c + 1)) ≡ false = ap is_wide next in
        let there = kept (left r (c + 1)) (right r (c + 1)) (from r (c + 1))
        (ap (λ (b : Bool). b && is_right_half (from r (c + 1))) kept_left) (none_and (right r (c + 1)) (is_wide (from r (c + 1))) narrow) in
        (omega (arith, q, other), unmasked r (c + 1) free.1 ∙ there ∙ next ∙ ap right_of (sym here))

    half_at : (r c : ℕ) → c < part.cols → is_right_half (at r c) ≡ true → (0 < c) × (is_wide (at r (c - 1)) ≡ true)
    half_at r c q w =
        let bare = not_masked r c is_right_half refl w in
        let is = unmasked r c bare in
        let g = from r c in
        let whole = not_cut (left r c) (right r c) g is_right_half refl (ap is_right_half (sym is) ∙ w) in
        let here : at r c ≡ g = is ∙ kept (left r c) (right r c) g whole.0 whole.1 in
        let half : is_right_half g ≡ true = ap is_right_half (sym here) ∙ w in
        let free = or_false (eqb c 0) (is_masked masks r (c - 1)) (and_none (left r c) (is_right_half g) whole.0 half) in
        let other : ¬ (c ≡ 0) = eqb-false c 0 free.0 in
        let place : part.col + c - 1 ≡ part.col + (c - 1) = omega (arith, other) in
        let before = from r (c - 1) in
        let wide : is_wide before ≡ true =
        ap (λ (k : ℕ). is_wide (glyph_or_blank s (part.row + r) k)) (sym place) ∙ (half_there (part.row + r) (part.col + c) half).1 in
        let on : c - 1 + 1 ≡ c = omega (arith, other) in
        let inner : eqb (c - 1 + 1) part.cols ≡ false = ne_eqb (c - 1 + 1) part.cols (λ n. omega (arith, n, q, other)) in
        let kept_right : right r (c - 1) ≡ false =
        ap (λ (b : Bool). b || is_masked masks r (c - 1 + 1)) inner ∙ ap (λ (k : ℕ). is_masked masks r k) on ∙ bare in
        let there = kept (left r (c - 1)) (right r (c - 1)) before
        (none_and (left r (c - 1)) (is_right_half before) (wide_points before.points wide)) (ap (λ (b : Bool). b && is_wide before) kept_right) in
        (omega (arith, other), ap is_wide (unmasked r (c - 1) free.1 ∙ there) ∙ wide)

    shown_at : (r c : ℕ) → IsShown (at r c)
    shown_at r c =
        elim (cases_Bool (is_masked masks r c)) [
          | inl e ↦ rw e blank_shown
          | inr e ↦ rw e (cut_shown (left r c) (right r c) (from r c) (shown_there (part.row + r) (part.col + c)))
        ]

    guard_at : (r c : ℕ) → (at r c).guarded ≡ false
    guard_at r c =
        elim (cases_Bool (is_masked masks r c)) [
          | inl e ↦ rw e refl
          | inr e ↦ rw e (cut_guard (left r c) (right r c) (from r c) ∙ guard_there (part.row + r) (part.col + c))
        ]

    abbrev cells : List Glyph
    cells = table part.rows part.cols at

    whole : AreWhole part.rows part.cols cells
    whole r p c q =
        let is = λ (k : ℕ) (a : k < part.cols). get_or-table part.rows part.cols at r k blank p a in
        record {
          wide = λ w.
              let both = wide_at r c q (ap is_wide (sym (is c q)) ∙ w) in
              (both.0, is (c + 1) both.0 ∙ both.1 ∙ ap right_of (sym (is c q)));
          half = λ w.
              let both = half_at r c q (ap is_right_half (sym (is c q)) ∙ w) in
              (both.0, ap is_wide (is (c - 1) (omega (arith, q))) ∙ both.1);
        }

    -- a property of the cell at each place
    each : (P : Glyph → Type 0) → ((r c : ℕ) → P (at r c)) → (k : ℕ) → k < length cells → P (get_or cells k blank)
    each P there k p =
        let place = place_of part.rows part.cols k (omega (arith, p, length-table part.rows part.cols at)) in
        let is : at (k / part.cols) (k % part.cols) ≡ get_or cells k blank =
        sym (get_or-table part.rows part.cols at (k / part.cols) (k % part.cols) blank place.0 place.1) ∙ ap (λ (j : ℕ). get_or cells j blank) place.2 in
        subst P is (there (k / part.cols) (k % part.cols))

    pub parted : IsSize part.rows part.cols → IsScreenshot (part_of part masks s)
    parted size =
        record {
          size = size;
          count = length-table part.rows part.cols at;
          cursor = record {
            row_from = omega arith;
            row_to = omega (arith, size.least_rows);
            col_from = omega arith;
            col_to = omega (arith, size.least_columns);
          };
          whole = whole;
          unguarded = each (λ g. g.guarded ≡ false) guard_at;
          shown = each (λ g. IsShown g) shown_at;
        }

    -- ---- rows that are shared

    module _ (none : masks ≡ []) (first : part.col ≡ 0) (all : part.cols ≡ s.cols) (r : ℕ) (p : part.row + r < s.rows) where
      bare : (c : ℕ) → is_masked masks r c ≡ false
      bare c = ap (λ (ms : List Part). is_masked ms r c) none

      place : (c : ℕ) → part.col + c ≡ c
      place c = omega (arith, first)

      abbrev row : List Glyph
      row = row_of s.cols s.cells (part.row + r)

      no_left : (c : ℕ) → (left r c && is_right_half (from r c)) ≡ false
      no_left c =
          elim (cases_Bool (is_right_half (from r c))) [
            | inl w ↦
                let far = (half_there (part.row + r) (part.col + c) w).0 in
                let out : left r c ≡ false = ap (λ (b : Bool). b || is_masked masks r (c - 1)) (ne_eqb c 0 (λ n. omega (arith, n, far, first))) ∙ bare (c - 1) in
                ap (λ (b : Bool). b && is_right_half (from r c)) out
            | inr e ↦ none_and (left r c) (is_right_half (from r c)) e
          ]

      no_right : (c : ℕ) → c < part.cols → (right r c && is_wide (from r c)) ≡ false
      no_right c q =
          elim (cases_Bool (is_wide (from r c))) [
            | inl w ↦
                let is = cell_there (part.row + r) (part.col + c) p (omega (arith, q, all, first)) in
                let room = ((h.whole (part.row + r) p (part.col + c) (omega (arith, q, all, first))).wide (ap is_wide (sym is) ∙ w)).0 in
                let inner : eqb (c + 1) part.cols ≡ false = ne_eqb (c + 1) part.cols (λ n. omega (arith, n, room, all, first)) in
                let out : right r c ≡ false = ap (λ (b : Bool). b || is_masked masks r (c + 1)) inner ∙ bare (c + 1) in
                ap (λ (b : Bool). b && is_wide (from r c)) out
            | inr e ↦ none_and (right r c) (is_wide (from r c)) e
          ]

      stands : (c : ℕ) → c < part.cols → get_or row c blank ≡ at r c
      stands c q =
          let inside : c < s.cols = omega (arith, q, all) in
          row_at s.cols s.cells (part.row + r) c inside
          ∙ sym (cell_there (part.row + r) c p inside)
          ∙ ap (λ (k : ℕ). glyph_or_blank s (part.row + r) k) (sym (place c))
          ∙ sym (kept (left r c) (right r c) (from r c) (no_left c) (no_right c q))
          ∙ sym (unmasked r c (bare c))

      stands_in : (k c : ℕ) → k < 1 → c < part.cols → cell_at part.cols row k c ≡ at r c
      stands_in k c one q =
          let zero : k ≡ 0 = omega (arith, one) in
          ap (λ (j : ℕ). get_or row (j * part.cols + c) blank) zero ∙ ap (λ (j : ℕ). get_or row j blank) (omega arith) ∙ stands c q

      -- a row of the screen that the part has unchanged
      pub shared_row : row ≡ map (at r) (range_with_len 0 part.cols)
      shared_row =
          let f = λ (k c : ℕ). at r c in
          let long : length row ≡ 1 * part.cols = length-row s.rows s.cols s.cells (part.row + r) h.count p ∙ sym all ∙ omega arith in
          table_is 1 part.cols f row long stands_in ∙ table_more 0 part.cols f ∙ ap (λ (t : List Glyph). t ++ map (at r) (range_with_len 0 part.cols)) (table_none part.cols f)

-- a screen of these parts is the part that is shown
pub part_shown : (part : Part) (masks : List Part) (s : Screenshot) (lines : List (List Glyph)) (row col : ℕ) (visible : Bool)
    → cells_in_order lines ≡ table part.rows part.cols (part_at part masks s) → row ≡ cursor_in part.row part.rows s.cursor_row
    → col ≡ cursor_in part.col part.cols s.cursor_col
    → visible ≡ (s.visible && (is_inside part.row part.rows s.cursor_row && is_inside part.col part.cols s.cursor_col))
    → screen_of part.rows part.cols lines row col visible ≡ part_of part masks s
part_shown part masks s lines _ _ _ cells row col visible i =
    record { rows = part.rows; cols = part.cols; cells = cells i; cursor_row = row i; cursor_col = col i; visible = visible i }

-- ---- laws

inside : (from count at : ℕ) → from < at → at ≤ from + count → is_inside from count at ≡ true
inside from count at a b = rw (lt-ltb from at a, le-leb at (from + count) b) refl

pub whole_screen : WholeIsScreen
whole_screen s h =
    let part : Part = record { row = 0; col = 0; rows = s.rows; cols = s.cols } in
    let row_in : is_inside 0 s.rows s.cursor_row ≡ true = inside 0 s.rows s.cursor_row (omega (arith, h.cursor.row_from)) (omega (arith, h.cursor.row_to)) in
    let col_in : is_inside 0 s.cols s.cursor_col ≡ true = inside 0 s.cols s.cursor_col (omega (arith, h.cursor.col_from)) (omega (arith, h.cursor.col_to)) in
    let row : cursor_in 0 s.rows s.cursor_row ≡ s.cursor_row = omega (arith, h.cursor.row_from, h.cursor.row_to) in
    let col : cursor_in 0 s.cols s.cursor_col ≡ s.cursor_col = omega (arith, h.cursor.col_from, h.cursor.col_to) in
    let at : (r c : ℕ) → r < s.rows → c < s.cols → cell_at s.cols s.cells r c ≡ part_at part [] s r c =
    λ r c p q. sym (cell_there s h r c p q) ∙ (λ i. glyph_or_blank s (plain r i) (plain c i))
    ∙ sym (unmasked s h part [] r c refl ∙ kept (left s h part [] r c) (right s h part [] r c) (from s h part [] r c)
    (no_left s h part [] refl refl refl r (omega (arith, p)) c) (no_right s h part [] refl refl refl r (omega (arith, p)) c q)) in
    λ i. record {
      rows = s.rows;
      cols = s.cols;
      cells = sym (table_is s.rows s.cols (part_at part [] s) s.cells h.count at) i;
      cursor_row = row i;
      cursor_col = col i;
      visible = (ap (λ (b : Bool). s.visible && b) (λ j. row_in j && col_in j) ∙ and_yes s.visible) i;
    }
  where
    plain : (k : ℕ) → k ≡ 0 + k
    plain k = omega arith

    and_yes : (b : Bool) → (b && true) ≡ b
    and_yes true = refl
    and_yes false = refl
