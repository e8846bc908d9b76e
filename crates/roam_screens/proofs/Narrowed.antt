-- A narrowed screen is one of version 1, and one of version 1 is narrowed to itself.
use Rattle.std.proofs.Common.{◌≡◌, ℕ, suc, ◌+◌, ◌-◌, ◌*◌, ◌/◌, ◌%◌, ◌<◌, ◌≤◌, min, Bool, true, false, not, eqb, ltb, ◌&&◌, ◌||◌, List, [], ◌∷◌, ◌++◌, map, length, length-append, get_or, refl, sym, ap, subst, ◌∙◌, arith, inl, inr}
use Rattle.std.specs.List.{range_with_len}
use Rattle.std.proofs.lemmas.Bool.{cases_Bool, false≢true, eq-eqb, eqb-true, ne_eqb, eqb-false, cases_eq, le-ltb, and_parts, and_right}
use Rattle.std.proofs.lemmas.List.{append-nil, append_assoc, length-replicate, get_or-replicate, get_or_push, get_or_append_left}
use Rattle.std.proofs.lemmas.List.FromFn.{map-range_with_len_more, length-map-range_with_len}
use Rattle.roam_cells.specs.Glyph.{Glyph, IsShown, IsColour, IsStyle, is_wide, is_right_half, right_of, space_in, blank}
use Rattle.roam_cells.specs.Place.{cell_at, table, IsWholeAt, AreWhole}
use Rattle.roam_screens.specs.Screenshot.{Screenshot, IsScreenshot, blank_screenshot}
use Rattle.roam_cells.specs.declared.styles.Style.{Style}
use Rattle.roam_cells.specs.declared.styles.Colour.{Colour}
use Rattle.roam_cells.specs.declared.styles.Colour.TheVariants.{Default, Index, Rgb}
use Rattle.roam_screens.specs.Lines.{cells_in_order, AreLines, screen_of}
use Rattle.roam_cells.proofs.Places.{length-table, get_or-table, place_of, place_below, table_is}
use Rattle.roam_cells.proofs.CellLists.{is_wide-blank, space_in_shown}
use Rattle.roam_screens.proofs.Screens.{blank_is_screenshot}
use Rattle.roam_screens.specs.Narrow.{is_plain_colour, is_plain_style, IsOldScreenshot, narrow_colour, narrow_style, narrow_glyph, narrow_rows, narrow_cols, row_shown, narrow_at, is_row_out, is_col_out, narrow_row, narrow}

-- ---- loops over rows

pub table_none : (cols : ℕ) (f : ℕ → ℕ → Glyph) → table 0 cols f ≡ []
unfolding table
table_none cols f = refl

pub table_more : (rows cols : ℕ) (f : ℕ → ℕ → Glyph) → table (rows + 1) cols f ≡ table rows cols f ++ map (f rows) (range_with_len 0 cols)
unfolding table
table_more rows cols f = let one : rows + 1 ≡ suc rows = omega arith in ap (λ (k : ℕ). table k cols f) one

pub row_none : (t : List Glyph) (f : ℕ → Glyph) → t ≡ t ++ map f (range_with_len 0 0)
row_none t f = sym (append-nil t)

pub row_more : (t : List Glyph) (f : ℕ → Glyph) (n : ℕ) → (t ++ map f (range_with_len 0 n)) ++ f n ∷ [] ≡ t ++ map f (range_with_len 0 (n + 1))
row_more t f n =
    append_assoc t (map f (range_with_len 0 n)) (f n ∷ [])
    ∙ ap (λ (x : List Glyph). t ++ x) (sym (map-range_with_len_more f 0 n n (omega arith)))

-- ---- lines

joined_last : (lines : List (List Glyph)) (line : List Glyph) → cells_in_order (lines ++ line ∷ []) ≡ cells_in_order lines ++ line
joined_last [] line = append-nil line
joined_last (l ∷ lines) line = ap (λ (x : List Glyph). l ++ x) (joined_last lines line) ∙ sym (append_assoc l (cells_in_order lines) line)

-- one line more of a table
pub record IsMore (row cols : ℕ) (f : ℕ → ℕ → Glyph) (all : List (List Glyph)) : Type 0 where
  pub lines : AreLines row cols all
  pub cells : cells_in_order all ≡ table row cols f

pub line_none : (cols : ℕ) (f : ℕ → ℕ → Glyph) (all : List (List Glyph)) → all ≡ [] → IsMore 0 cols f all
line_none cols f all e =
    subst (IsMore 0 cols f) (sym e) (record { lines = record { count = refl; long = λ k h. absurd (omega (arith, h)) }; cells = sym (table_none cols f) })

pub line_more : (row cols : ℕ) (f : ℕ → ℕ → Glyph) (lines : List (List Glyph)) (line : List Glyph) → IsMore row cols f lines
    → line ≡ map (f row) (range_with_len 0 cols) → IsMore (row + 1) cols f (lines ++ line ∷ [])
line_more row cols f lines line is e =
    let long : length line ≡ cols = ap length e ∙ length-map-range_with_len (f row) 0 cols in
    let count : length (lines ++ line ∷ []) ≡ row + 1 = omega (arith, length-append lines (line ∷ []), is.lines.count) in
    record {
      lines = record {
        count = count;
        long = λ k h.
            elim (cases_eq k row) [
              | inl q ↦ ap (λ (j : ℕ). length (get_or (lines ++ line ∷ []) j [])) q ∙ ap length (get_or_push lines line [] row is.lines.count) ∙ long
              | inr d ↦
                  let p : k < length lines = omega (arith, h, count, d, is.lines.count) in
                  ap length (get_or_append_left lines (line ∷ []) [] k p) ∙ is.lines.long k p
            ];
      };
      cells = joined_last lines line ∙ ap (λ (x : List Glyph). x ++ line) is.cells ∙ ap (λ (x : List Glyph). table row cols f ++ x) e ∙ sym (table_more row cols f);
    }

-- ---- one cell

plain_colour : (c : Colour) → is_plain_colour (narrow_colour c) ≡ true
plain_colour Default = refl
plain_colour (Index n) = refl
plain_colour (Rgb r g b) = refl

plain_style : (s : Style) → is_plain_style (narrow_style s) ≡ true
plain_style s = rw (plain_colour s.foreground, plain_colour s.background) refl

plain_glyph : (last : Bool) (g : Glyph) → is_plain_style (narrow_glyph last g).style ≡ true
plain_glyph last g =
    elim (cases_Bool (last && is_wide g)) [
      | inl e ↦ rw e (plain_style g.style)
      | inr e ↦ rw e (plain_style g.style)
    ]

colour_stays : (c : Colour) → is_plain_colour c ≡ true → narrow_colour c ≡ c
colour_stays Default h = refl
colour_stays (Index n) h = refl
colour_stays (Rgb r g b) h = absurd (false≢true h)

style_stays : (s : Style) → is_plain_style s ≡ true → narrow_style s ≡ s
style_stays s h =
    let both = and_parts (is_plain_colour s.foreground) (is_plain_colour s.background) h in
    λ i. record s { foreground = colour_stays s.foreground both.0 i; background = colour_stays s.background both.1 i }

colour_is : (c : Colour) → IsColour c → IsColour (narrow_colour c)
colour_is Default is = tt
colour_is (Index n) is = is
colour_is (Rgb r g b) is = omega (arith, is.0, is.1, is.2)

style_is : (s : Style) → IsStyle s → IsStyle (narrow_style s)
style_is s is = record { foreground = colour_is s.foreground is.foreground; background = colour_is s.background is.background }

shown_glyph : (last : Bool) (g : Glyph) → IsShown g → IsShown (narrow_glyph last g)
shown_glyph last g h =
    elim (cases_Bool (last && is_wide g)) [
      | inl e ↦
          rw e (record { text = (space_in_shown g h).text; scalars = (space_in_shown g h).scalars; style = style_is g.style h.style })
      | inr e ↦ rw e (record { text = h.text; scalars = h.scalars; style = style_is g.style h.style })
    ]

guard_glyph : (last : Bool) (g : Glyph) → (narrow_glyph last g).guarded ≡ g.guarded
guard_glyph last g =
    elim (cases_Bool (last && is_wide g)) [
      | inl e ↦ rw e refl
      | inr e ↦ rw e refl
    ]

-- a cell that is not cut keeps its code points
kept_glyph : (last : Bool) (g : Glyph) → (last && is_wide g) ≡ false → narrow_glyph last g ≡ record g { style = narrow_style g.style }
kept_glyph last g e = rw e refl

-- a cell that is wide afterwards, or a right half, was not cut
not_cut : (last : Bool) (g : Glyph) (P : Glyph → Bool) → P (record (space_in g) { style = narrow_style g.style }) ≡ false → P (narrow_glyph last g) ≡ true
    → (last && is_wide g) ≡ false
not_cut last g P none h =
    elim (cases_Bool (last && is_wide g)) [
      | inl e ↦ let yes : P (record (space_in g) { style = narrow_style g.style }) ≡ true = rw e at h in absurd (false≢true (sym none ∙ yes))
      | inr e ↦ e
    ]

-- ---- a screen

module _ (s : Screenshot) (h : IsScreenshot s) where
  abbrev rows : ℕ
  rows = narrow_rows s.rows

  abbrev cols : ℕ
  cols = narrow_cols s.cols

  shown_row : (r : ℕ) → r < rows → row_shown s.rows r < s.rows
  shown_row r p =
      elim (cases_Bool (eqb (r + 1) rows)) [
        | inl e ↦ rw e (let some = h.size.least_rows in omega (arith, some))
        | inr e ↦ rw e (omega (arith, p))
      ]

  pub row_there : (r from : ℕ) → r < rows → from ≡ row_shown s.rows r → from < s.rows
  row_there r from p e = let low = shown_row r p in omega (arith, low, e)

  abbrev old : ℕ → ℕ → Glyph
  old r c = cell_at s.cols s.cells (row_shown s.rows r) c

  abbrev last : ℕ → Bool
  last c = eqb (c + 1) cols

  space_narrow : (g : Glyph) → is_wide (record (space_in g) { style = narrow_style g.style }) ≡ false
  space_narrow g = is_wide-blank

  not_last : (c : ℕ) (b : Bool) → b ≡ true → (last c && b) ≡ false → ¬ (c + 1 ≡ cols)
  not_last c b w e n = false≢true (sym e ∙ ap (λ (x : Bool). last c && x) w ∙ ap (λ (x : Bool). x && true) (eq-eqb (c + 1) cols n))

  no_wide : (b x : Bool) → x ≡ false → (b && x) ≡ false
  no_wide true x e = e
  no_wide false x e = refl

  whole_at : (r c : ℕ) → r < rows → c < cols → IsWholeAt cols (narrow_at s r) c
  whole_at r c p q =
      let g = old r c in
      let source = h.whole (row_shown s.rows r) (shown_row r p) c (omega (arith, q)) in
      record {
        wide = λ w.
            let e = not_cut (last c) g is_wide (space_narrow g) w in
            let here = kept_glyph (last c) g e in
            let was : is_wide g ≡ true = ap is_wide (sym here) ∙ w in
            let both = source.wide was in
            let n = not_last c (is_wide g) was e in
            let room : c + 1 < cols = omega (arith, q, n) in
            let narrow_next : is_wide (old r (c + 1)) ≡ false = ap is_wide both.1 in
            let next = kept_glyph (last (c + 1)) (old r (c + 1)) (no_wide (last (c + 1)) (is_wide (old r (c + 1))) narrow_next) in
            (room, next ∙ ap (λ (x : Glyph). record x { style = narrow_style x.style }) both.1 ∙ ap right_of (sym here));
        half = λ w.
            let e = not_cut (last c) g is_right_half refl w in
            let here = kept_glyph (last c) g e in
            let was : is_right_half g ≡ true = ap is_right_half (sym here) ∙ w in
            let both = source.half was in
            let before = old r (c - 1) in
            let inside : last (c - 1) ≡ false = ne_eqb (c - 1 + 1) cols (λ n. omega (arith, n, q, both.0)) in
            let kept = kept_glyph (last (c - 1)) before (ap (λ (x : Bool). x && is_wide before) inside) in
            (both.0, ap is_wide kept ∙ both.1);
      }

  abbrev cells : List Glyph
  cells = table rows cols (narrow_at s)

  whole : AreWhole rows cols cells
  whole r p c q =
      let is = λ (k : ℕ) (a : k < cols). get_or-table rows cols (narrow_at s) r k blank p a in
      let at = whole_at r c p q in
      record {
        wide = λ w.
            let both = at.wide (ap is_wide (sym (is c q)) ∙ w) in
            (both.0, is (c + 1) both.0 ∙ both.1 ∙ ap right_of (sym (is c q)));
        half = λ w.
            let both = at.half (ap is_right_half (sym (is c q)) ∙ w) in
            (both.0, ap is_wide (is (c - 1) (omega (arith, q))) ∙ both.1);
      }

  -- a property of the cell at each place
  each : (P : Glyph → Type 0) → ((r c : ℕ) → r < rows → c < cols → P (narrow_at s r c)) → (k : ℕ) → k < length cells → P (get_or cells k blank)
  each P there k p =
      let at = place_of rows cols k (omega (arith, p, length-table rows cols (narrow_at s))) in
      let is : narrow_at s (k / cols) (k % cols) ≡ get_or cells k blank =
      sym (get_or-table rows cols (narrow_at s) (k / cols) (k % cols) blank at.0 at.1) ∙ ap (λ (j : ℕ). get_or cells j blank) at.2 in
      subst P is (there (k / cols) (k % cols) at.0 at.1)

  index_in : (r c : ℕ) → r < rows → c < cols → row_shown s.rows r * s.cols + c < length s.cells
  index_in r c p q =
      let below = place_below s.rows s.cols (row_shown s.rows r) c (shown_row r p) (omega (arith, q)) in
      omega (arith, below, h.count)

  row_place : (1 ≤ narrow_row s.rows s.cursor_row) × (narrow_row s.rows s.cursor_row ≤ rows)
  row_place =
      let from = h.cursor.row_from in
      let to = h.cursor.row_to in
      let some = h.size.least_rows in
      elim (cases_Bool (eqb s.cursor_row s.rows)) [
        | inl e ↦ rw e (omega (arith, some), omega arith)
        | inr e ↦
            let other : ¬ (s.cursor_row ≡ s.rows) = eqb-false s.cursor_row s.rows e in
            rw e (omega (arith, from), omega (arith, from, to, other))
      ]

  pub narrowed : IsOldScreenshot (narrow s)
  narrowed =
      let size = h.size in
      let place = row_place in
      record {
        screenshot = record {
          size = record {
            least_rows = omega (arith, size.least_rows);
            most_rows = omega arith;
            least_columns = omega (arith, size.least_columns);
            most_columns = omega arith;
          };
          count = length-table rows cols (narrow_at s);
          cursor = record {
            row_from = place.0;
            row_to = place.1;
            col_from = omega (arith, h.cursor.col_from);
            col_to = omega (arith, h.cursor.col_to);
          };
          whole = whole;
          unguarded = each (λ g. g.guarded ≡ false) (λ r c p q. guard_glyph (last c) (old r c) ∙ h.unguarded (row_shown s.rows r * s.cols + c) (index_in r c p q));
          shown = each (λ g. IsShown g) (λ r c p q. shown_glyph (last c) (old r c) (h.shown (row_shown s.rows r * s.cols + c) (index_in r c p q)));
        };
        rows = omega arith;
        cols = omega arith;
        plain = each (λ g. is_plain_style g.style ≡ true) (λ r c p q. plain_glyph (last c) (old r c));
      }

-- ---- a screen of version 1

module _ (s : Screenshot) (h : IsOldScreenshot s) where
  rows_stay : narrow_rows s.rows ≡ s.rows
  rows_stay = omega (arith, h.rows)

  cols_stay : narrow_cols s.cols ≡ s.cols
  cols_stay = omega (arith, h.cols)

  row_stays : (r : ℕ) → r < s.rows → row_shown s.rows r ≡ r
  row_stays r p =
      elim (cases_Bool (eqb (r + 1) (narrow_rows s.rows))) [
        | inl e ↦ let is = eqb-true (r + 1) (narrow_rows s.rows) e in rw e (omega (arith, is, rows_stay))
        | inr e ↦ rw e refl
      ]

  glyph_stays : (r c : ℕ) → r < s.rows → c < s.cols → narrow_glyph (eqb (c + 1) (narrow_cols s.cols)) (cell_at s.cols s.cells r c) ≡ cell_at s.cols s.cells r c
  glyph_stays r c p q =
      let g = cell_at s.cols s.cells r c in
      let below = place_below s.rows s.cols r c p q in
      let plain = h.plain (r * s.cols + c) (omega (arith, below, h.screenshot.count)) in
      let style : narrow_style g.style ≡ g.style = style_stays g.style plain in
      let uncut : (eqb (c + 1) (narrow_cols s.cols) && is_wide g) ≡ false =
      elim (cases_Bool (is_wide g)) [
        | inl w ↦
            let room = ((h.screenshot.whole r p c q).wide w).0 in
            ap (λ (x : Bool). x && is_wide g) (ne_eqb (c + 1) (narrow_cols s.cols) (λ n. omega (arith, n, room, cols_stay)))
        | inr n ↦ and_right (eqb (c + 1) (narrow_cols s.cols)) (is_wide g) n
      ] in
      kept_glyph (eqb (c + 1) (narrow_cols s.cols)) g uncut ∙ (λ i. record g { style = style i })

  at_stays : (r c : ℕ) → r < s.rows → c < s.cols → cell_at s.cols s.cells r c ≡ narrow_at s r c
  at_stays r c p q =
      sym (ap (λ (k : ℕ). narrow_glyph (eqb (c + 1) (narrow_cols s.cols)) (cell_at s.cols s.cells k c)) (row_stays r p) ∙ glyph_stays r c p q)

  cells_stay : table (narrow_rows s.rows) (narrow_cols s.cols) (narrow_at s) ≡ s.cells
  cells_stay =
      (λ i. table (rows_stay i) (cols_stay i) (narrow_at s))
      ∙ sym (table_is s.rows s.cols (narrow_at s) s.cells h.screenshot.count at_stays)

  cursor_stays : narrow_row s.rows s.cursor_row ≡ s.cursor_row
  cursor_stays =
      let to = h.screenshot.cursor.row_to in
      elim (cases_Bool (eqb s.cursor_row s.rows)) [
        | inl e ↦ rw e (omega (arith, eqb-true s.cursor_row s.rows e, rows_stay))
        | inr e ↦ let other : ¬ (s.cursor_row ≡ s.rows) = eqb-false s.cursor_row s.rows e in rw e (omega (arith, other, to, h.rows))
      ]

  row_in : is_row_out s.rows s.cursor_row ≡ false
  row_in =
      let to = h.screenshot.cursor.row_to in
      elim (cases_Bool (eqb s.cursor_row s.rows)) [
        | inl e ↦ rw e (and_right (ltb 99 s.cursor_row) false refl)
        | inr e ↦
            let other : ¬ (s.cursor_row ≡ s.rows) = eqb-false s.cursor_row s.rows e in
            ap (λ (x : Bool). x && not (eqb s.cursor_row s.rows)) (le-ltb 99 s.cursor_row (omega (arith, other, to, h.rows)))
      ]

  col_in : is_col_out s.cursor_col ≡ false
  col_in = let to = h.screenshot.cursor.col_to in le-ltb 250 s.cursor_col (omega (arith, to, h.cols))

  and_yes : (b : Bool) → (b && true) ≡ b
  and_yes true = refl
  and_yes false = refl

  visible_stays : (s.visible && not (is_row_out s.rows s.cursor_row || is_col_out s.cursor_col)) ≡ s.visible
  visible_stays = rw (row_in, col_in) (and_yes s.visible)

  pub stays : narrow s ≡ s
  stays i =
      let to = h.screenshot.cursor.col_to in
      let col : min s.cursor_col 250 ≡ s.cursor_col = omega (arith, to, h.cols) in
      record {
        rows = rows_stay i;
        cols = cols_stay i;
        cells = cells_stay i;
        cursor_row = cursor_stays i;
        cursor_col = col i;
        visible = visible_stays i;
      }

-- ---- the requirements of the protocol

pub narrow_is : (s : Screenshot) → IsScreenshot s → IsOldScreenshot (narrow s)
narrow_is s is = narrowed s is

-- a blank screen within the old limits is one
pub old_blank : IsOldScreenshot (blank_screenshot 24 80)
old_blank =
    record {
      screenshot = blank_is_screenshot 24 80 (record { least_rows = omega arith; most_rows = omega arith; least_columns = omega arith; most_columns = omega arith });
      rows = omega arith;
      cols = omega arith;
      plain = λ k p.
          let q : k < 24 * 80 = omega (arith, p, length-replicate (24 * 80) blank) in
          ap (λ (g : Glyph). is_plain_style g.style) (get_or-replicate (24 * 80) k blank blank q);
    }

-- a screen of these parts is the narrowed one
pub narrow_shown : (s : Screenshot) (rows cols : ℕ) (lines : List (List Glyph)) (row col : ℕ) (visible : Bool) → rows ≡ narrow_rows s.rows → cols ≡ narrow_cols s.cols
    → cells_in_order lines ≡ table rows cols (narrow_at s) → row ≡ narrow_row s.rows s.cursor_row → col ≡ min s.cursor_col 250
    → visible ≡ (s.visible && not (is_row_out s.rows s.cursor_row || is_col_out s.cursor_col)) → screen_of rows cols lines row col visible ≡ narrow s
narrow_shown s m n lines _ _ _ a b c d e f i =
    let all : cells_in_order lines ≡ table (narrow_rows s.rows) (narrow_cols s.cols) (narrow_at s) = c ∙ (λ j. table (a j) (b j) (narrow_at s)) in
    record { rows = a i; cols = b i; cells = all i; cursor_row = d i; cursor_col = e i; visible = f i }
