-- A screen is painted over whatever a plain terminal of its size shows.
use Rattle.std.proofs.Common.{◌≡◌, ◌≤◌, ◌<◌, ℕ, ◌+◌, ◌-◌, Bool, true, false, inl, inr, List, [], ◌∷◌, ◌++◌, map, length, Option, Some, None, refl, sym, ap, ◌∙◌, subst, arith}
use Rattle.std.specs.Prelude.{◌==◌, ◌&&◌, not, nat_le, if◌then◌else◌}
use Rattle.std.proofs.lemmas.Bool.{false≢true, cases_lt, cases_eq, cases_Bool, eq-eqb, eqb-true, ne_eqb, and_parts}
use Rattle.roam_cells.specs.Glyph.{Glyph, is_wide, is_right_half, is_text, is_empty_text, are_joiners, right_of, blank, default_style}
use Rattle.roam_cells.specs.Place.{cell_at}
use Rattle.roam_cells.specs.Width.{width_of, is_joiner}
use Rattle.roam_cells.specs.declared.extents.Extent.TheVariants.{All}
use Rattle.roam_cells.specs.declared.styles.Style.{Style}
use Rattle.roam_cells.proofs.Places.{get_or-table}
use Rattle.roam_charset.specs.declared.charsets.Charset.TheVariants.{Ascii}
use Rattle.roam_charset.specs.declared.sets.Element.TheVariants.{G0}
use Rattle.roam_screens.specs.Screenshot.{Screenshot, IsScreenshot, blank_screenshot}
use Rattle.roam_grid.specs.Erasing.{page_blanked}
use Rattle.roam_grid.specs.Writing.{columns, joined_on}
use Rattle.roam_grid.specs.Cursor.{wrap_cleared}
use Rattle.roam_rows.specs.Places.{in_row, mapped_cells, moved_at}
use Rattle.roam_rows.specs.Writing.{writing_source}
use Rattle.roam_text.specs.declared.functions.Function.{Function}
use Rattle.roam_text.specs.declared.functions.Function.TheVariants.{Print}
use Rattle.roam_term.specs.ControlFunctions.{hide_cursor, show_cursor, erase_all, place_cursor, restyle, set_style}
use Rattle.roam_term.specs.Ground.{shown_at}
use Rattle.roam_term.specs.Terminal.{Live, changed_by, live_after}
use Rattle.roam_term.proofs.Cells.{first_of, first_wide, by, written_half, written_other}
use Rattle.roam_term.proofs.Grounds.{constants_of, erased_shows}
use Rattle.roam_term.proofs.Steps.{acted, acted-append, Constants, at_work, goes, restyles, restyled, hides, reveals, erases, joins, print_is, pends, Printed, prints_all}
use Rattle.roam_paint.specs.Painting.{same_size, painted_over, differs, style_at, drawn_rows, opening, closing, functions_between}
use Rattle.roam_paint.proofs.Places.{same_below, same_right, same_cell}
use Rattle.roam_paint.proofs.Walk.{Walked, all_rows, all_shown}
use Rattle.roam_paint.proofs.Whole.{wide_shown, half_shown, paintable_shown}
use Rattle.roam_repaint.specs.Repainted.{IsPlain, IsRepaint, IsRepainted, TextRepaints, column_after}
use Rattle.roam_repaint.specs.Repainting.{Repaint, wrap_off, other_screen, cell_there, rewritten, repainting_rest, repainting}
use Rattle.roam_repaint.proofs.Grounding.{grounded}

-- ---- another size

other-size : (s : Screenshot) → same_size (other_screen s) s ≡ false
other-size s = by-rows (s.rows == 2) refl
  where
    by-rows : (b : Bool) → (s.rows == 2) ≡ b → same_size (if b then blank_screenshot 3 4 else blank_screenshot 2 4) s ≡ false
    by-rows true e =
        let two = eqb-true s.rows 2 e in
        ap (λ b. b && (4 == s.cols)) (ne_eqb 3 s.rows (λ h. absurd (omega (arith, h, two))))
    by-rows false e =
        ap (λ b. b && (4 == s.cols)) (ne_eqb 2 s.rows (λ h. false≢true (sym e ∙ eq-eqb s.rows 2 (sym h))))

module _ (still : Constants) (s : Screenshot) (rows_in : s.rows ≤ still.rows) (cols_in : s.cols ≤ still.cols) (painting : IsScreenshot s) where
  abbrev old : Screenshot
  old = other_screen s

  -- ---- all rows are painted over a blank screen

  abbrev W : ℕ → ℕ → Style → Live → Type 0
  W = Walked still s.rows s.cols (differs old s) (shown_at s) rows_in cols_in (wide_shown s painting) (half_shown s painting) (paintable_shown s painting)

  begun : (cells : List Glyph) (row col : ℕ) (pending : Bool) (t : Live) → t ≡ at_work still cells row col pending default_style false None
      → ((i j : ℕ) → i < still.rows → j < still.cols → cell_at still.cols cells i j ≡ painted_over old s i j) → W 0 0 default_style t
  begun cells row col pending t is each = record {
    cells = cells;
    row = row;
    col = col;
    pending = pending;
    last = None;
    is = is;
    shown = record {
      above = λ i j p a b. absurd (omega (arith, p));
      before = λ j p q. absurd (omega (arith, p));
      half = λ h q. let low = (half_shown s painting 0 0 h).0 in absurd (omega (arith, low));
      rest = λ i j p q e. each i j p q ∙ same_cell old s i j e;
    };
    stands = λ p q e h. absurd (omega (arith, p));
    middle = λ q h e. let low = (half_shown s painting 0 0 h).0 in absurd (omega (arith, low));
  }

  module _ (cells : List Glyph) (row col : ℕ) (pending visible : Bool) where
    abbrev before : Live
    before = at_work still cells row col pending default_style visible None

    abbrev erased : List Glyph
    erased = mapped_cells still.rows still.cols cells (page_blanked All row col)

    opened : W 0 0 default_style (acted (hide_cursor ∷ erase_all ∷ []) before)
    opened =
        begun erased row col false (changed_by erase_all (changed_by hide_cursor before))
        (ap (changed_by erase_all) (hides still cells row col pending default_style visible None)
        ∙ erases still cells row col pending default_style false None)
        (λ i j p q. erased_shows still.rows still.cols cells row col i j p q
        ∙ sym (ap (λ b. if b then shown_at old i j else blank) (other-size s)))

    abbrev body : List Function
    body = drawn_rows (differs old s) (shown_at s) s.cols s.rows

    walked : W s.rows 0 (style_at (differs old s) (shown_at s) s.cols s.rows) (acted body (acted (hide_cursor ∷ erase_all ∷ []) before))
    walked = all_rows still s.rows s.cols (differs old s) (shown_at s) rows_in cols_in (wide_shown s painting) (half_shown s painting)
        (paintable_shown s painting) (same_below old s) (same_right old s) s.rows (acted (hide_cursor ∷ erase_all ∷ []) before) (omega arith) opened

    abbrev painted_cells : List Glyph
    painted_cells = walked.cells

    painted_shows : (i j : ℕ) → i < still.rows → j < still.cols → cell_at still.cols painted_cells i j ≡ shown_at s i j
    painted_shows = all_shown still s.rows s.cols (differs old s) (shown_at s) rows_in cols_in (wide_shown s painting) (half_shown s painting)
        (paintable_shown s painting) (same_below old s) (same_right old s) _ _ walked

    revealed : (cells : List Glyph) (b : Bool)
        → acted (if b then show_cursor ∷ [] else []) (at_work still cells (s.cursor_row - 1) (s.cursor_col - 1) false default_style false None)
        ≡ at_work still cells (s.cursor_row - 1) (s.cursor_col - 1) false default_style b None
    revealed cells true = reveals still cells (s.cursor_row - 1) (s.cursor_col - 1) false default_style false None
    revealed cells false = refl

    shut : (visible : Bool) (u : Live) (cells : List Glyph) (row col : ℕ) (pending : Bool) (g : Style) (last : Option ℕ)
        → u ≡ at_work still cells row col pending g false last
        → acted (set_style default_style ∷ place_cursor s.cursor_row s.cursor_col ∷ (if visible then show_cursor ∷ [] else [])) u
        ≡ at_work still cells (s.cursor_row - 1) (s.cursor_col - 1) false default_style visible None
    shut visible u cells row col pending g last is =
        let more = if visible then show_cursor ∷ [] else [] in
        let a = painting.cursor.row_to in
        let b = painting.cursor.col_to in
        ap (λ u. acted more (changed_by (place_cursor s.cursor_row s.cursor_col) (changed_by (set_style default_style) u))) is
        ∙ ap (λ u. acted more (changed_by (place_cursor s.cursor_row s.cursor_col) u)) (restyles still cells row col pending g false last default_style tt tt)
        ∙ ap (acted more) (goes still cells row col pending default_style false None s.cursor_row s.cursor_col
        painting.cursor.row_from (omega (arith, a, rows_in)) painting.cursor.col_from (omega (arith, b, cols_in)))
        ∙ revealed cells visible

    opening-is : opening old s ≡ hide_cursor ∷ erase_all ∷ []
    opening-is = ap (λ b. hide_cursor ∷ (if b then [] else erase_all ∷ [])) (other-size s)

    painted : acted (functions_between old s) before ≡ at_work still painted_cells (s.cursor_row - 1) (s.cursor_col - 1) false default_style s.visible None
    unfolding functions_between
    painted =
        ap (λ o. acted (o ++ (body ++ closing s)) before) opening-is
        ∙ acted-append body (closing s) (acted (hide_cursor ∷ erase_all ∷ []) before)
        ∙ shut s.visible (acted body (acted (hide_cursor ∷ erase_all ∷ []) before)) walked.cells walked.row walked.col walked.pending _ walked.last walked.is

-- ---- the cell at the cursor is written again

module _ (still : Constants) (s : Screenshot) (rows_are : s.rows ≡ still.rows) (cols_are : s.cols ≡ still.cols) (painting : IsScreenshot s)
    (r k : ℕ) (r_in : r < s.rows) (k_in : k < s.cols) (some : is_right_half (shown_at s r k) ≡ false)
    (cells : List Glyph) (shows : (i j : ℕ) → i < still.rows → j < still.cols → cell_at still.cols cells i j ≡ shown_at s i j) (visible : Bool) where
  abbrev new : ℕ → ℕ → Glyph
  new = shown_at s

  abbrev x : Glyph
  x = shown_at s r k

  abbrev cols : ℕ
  cols = still.cols

  wide_in : (i j : ℕ) → is_wide (new i j) ≡ true → (j + 1 < s.cols) × (new i (j + 1) ≡ right_of (new i j))
  wide_in = wide_shown s painting

  half_in : (i j : ℕ) → is_right_half (new i j) ≡ true → (0 < j) × (is_wide (new i (j - 1)) ≡ true)
  half_in = half_shown s painting

  again : Printed still cells r k x visible (acted (map Print x.points) (at_work still cells r k false x.style visible None))
  again =
      let cell = paintable_shown s painting r k r_in k_in in
      prints_all still cells r k visible None x.points x.style x.guarded (omega (arith, r_in, rows_are)) (omega (arith, k_in, cols_are))
      cell.text some cell.unguarded (λ h. let inside = (wide_in r k h).0 in omega (arith, inside, cols_are))

  at_table : (i j : ℕ) → i < still.rows → j < still.cols → (i ≡ r → j ≡ k → ⊥)
      → cell_at cols again.cells' i j ≡ moved_at cols cells (by (is_wide x) (first_of x) r k) i j
  at_table i j p q e =
      again.other i j p q e ∙ get_or-table still.rows still.cols (moved_at cols cells (in_row r (writing_source (first_of x) k))) i j _ p q
      ∙ ap (λ b. moved_at cols cells (by b (first_of x) r k) i j) (first_wide x)

  hits_half : is_wide x ≡ true → cell_at cols again.cells' r (k + 1) ≡ new r (k + 1)
  hits_half w =
      let h = wide_in r k w in
      let inside = h.0 in
      at_table r (k + 1) (omega (arith, r_in, rows_are)) (omega (arith, inside, cols_are)) (λ a b. absurd (omega (arith, b)))
      ∙ ap (λ b. moved_at cols cells (by b (first_of x) r k) r (k + 1)) w ∙ written_half (first_of x) cols cells r k (first_wide x ∙ w) ∙ sym h.1

  cuts_left : (i j : ℕ) → is_wide (new i j) ≡ true → i ≡ r → j + 1 ≡ k → ⊥
  cuts_left i j w p q =
      let is : new r k ≡ right_of (new i j) = sym (ap (λ a. new a (j + 1)) p ∙ ap (new r) q) ∙ (wide_in i j w).1 in
      false≢true (sym some ∙ ap is_right_half is)

  cuts_right : (i j : ℕ) → is_right_half (new i j) ≡ true → is_wide x ≡ true → i ≡ r → j ≡ k + 2 → ⊥
  cuts_right i j h w p q =
      let back : j - 1 ≡ k + 1 = omega (arith, q) in
      let wide : is_wide (new r (k + 1)) ≡ true = sym (ap (λ a. is_wide (new a (j - 1))) p ∙ ap (λ a. is_wide (new r a)) back) ∙ (half_in i j h).1 in
      false≢true (sym (ap is_wide (wide_in r k w).1) ∙ wide)

  over_wide : (i j : ℕ) → is_right_half (new i j) ≡ true → i ≡ r → j ≡ k + 1 → is_wide x ≡ true
  over_wide i j h p q =
      let back : j - 1 ≡ k = omega (arith, q) in
      sym (ap (λ a. is_wide (new a (j - 1))) p ∙ ap (λ a. is_wide (new r a)) back) ∙ (half_in i j h).1

  keeps_other : (i j : ℕ) → i < still.rows → j < still.cols → (i ≡ r → j ≡ k → ⊥) → (is_wide x ≡ true → i ≡ r → j ≡ k + 1 → ⊥)
      → cell_at cols again.cells' i j ≡ new i j
  keeps_other i j p q here right =
      at_table i j p q here
      ∙ written_other (is_wide x) (first_of x) cols cells r k i j here right
      (λ w. let wide : is_wide (new i j) ≡ true = sym (ap is_wide (shows i j p q)) ∙ w in let h = (wide_in i j wide).0 in (omega (arith, h, cols_are), cuts_left i j wide))
      (λ w. let half : is_right_half (new i j) ≡ true = sym (ap is_right_half (shows i j p q)) ∙ w in
      ((half_in i j half).0, (λ a b. right (over_wide i j half a b) a b), cuts_right i j half))
      ∙ shows i j p q

  -- every place keeps its cell
  keeps : (i j : ℕ) → i < still.rows → j < still.cols → cell_at cols again.cells' i j ≡ new i j
  keeps i j p q =
      elim (cases_eq i r) [
        | inr n ↦ keeps_other i j p q (λ a b. n a) (λ w a b. n a)
        | inl a ↦
            elim (cases_eq j k) [
              | inl b ↦ ap (λ z. cell_at cols again.cells' z j) a ∙ ap (λ z. cell_at cols again.cells' r z) b ∙ again.hit ∙ sym (ap (λ z. new z j) a ∙ ap (λ z. new r z) b)
              | inr m ↦
                  elim (cases_eq j (k + 1)) [
                    | inr o ↦ keeps_other i j p q (λ z y. m y) (λ w z y. o y)
                    | inl e ↦
                        elim (cases_Bool (is_wide x)) [
                          | inl w ↦ ap (λ z. cell_at cols again.cells' z j) a ∙ ap (λ z. cell_at cols again.cells' r z) e ∙ hits_half w ∙ sym (ap (λ z. new z j) a ∙ ap (λ z. new r z) e)
                          | inr w ↦ keeps_other i j p q (λ z y. m y) (λ v z y. false≢true (sym w ∙ v))
                        ]
                  ]
            ]
      ]

-- ---- behind a cell that ends in the last column a wrap is pending

module _ (still : Constants) (r : ℕ) (g : Style) (visible : Bool) where
  abbrev waiting : List Glyph → Option ℕ → Live
  waiting cells last = at_work still cells r (still.cols - 1) true g visible last

  -- the wrap stays pending after a joined character
  joined-on : (js : List ℕ) (cells : List Glyph) (last : Option ℕ) → are_joiners js ≡ true
      → (cells' : List Glyph) × (acted (map Print js) (waiting cells last) ≡ waiting cells' last)
  unfolding joined_on
  joined-on [] cells last h = (cells, refl)
  joined-on (j ∷ js) cells last h =
      let parts = and_parts (is_joiner j) (are_joiners js) h in
      let next = (joined_on j (waiting cells last).screen).cells in
      let more = joined-on js next last parts.1 in
      (more.0, ap (acted (map Print js)) (joins still j parts.0 cells r (still.cols - 1) true g visible last) ∙ more.1)

  module _ (cells : List Glyph) (k : ℕ) (r_in : r < still.rows) (k_in : k < still.cols) where
    some-columns : (c : ℕ) → not (width_of c == 0) ≡ true → 1 ≤ width_of c
    some-columns c h = elim (cases_lt 0 (width_of c)) [
      | inl k ↦ k
      | inr k ↦ absurd (false≢true (sym (ap not (eq-eqb (width_of c) 0 (omega (arith, k)))) ∙ h))
    ]

    waits : (points : List ℕ) → is_text points ≡ true → is_empty_text points ≡ false
        → k + columns (record { points = points; style = g; guarded = false }) ≡ still.cols
        → (cells' : List Glyph) × (last : Option ℕ) × (acted (map Print points) (at_work still cells r k false g visible None) ≡ waiting cells' last)
    waits [] text some ends = absurd (false≢true (sym some))
    waits (c ∷ js) text some ends =
        let first = and_parts (not (width_of c == 0) && are_joiners js) (nat_le (length js) 2) text in
        let second = and_parts (not (width_of c == 0)) (are_joiners js) first.0 in
        let x : Glyph = record { points = c ∷ []; style = g; guarded = false } in
        let inked = mapped_cells still.rows still.cols cells (in_row r (writing_source x k)) in
        let more = joined-on js inked (Some c) second.1 in
        let fits : is_wide x ≡ true → k + 1 < still.cols = λ w. let two : columns x ≡ 2 = ap (λ b. if b then 2 else 1) w in omega (arith, ends, two) in (
          more.0,
          Some c,
          ap (acted (map Print js)) (print_is still cells r k c g visible None (some-columns c second.0) r_in k_in fits
              ∙ ap (λ u. record (at_work still cells r k false g visible None) { screen = u; printed = Some c })
              (pends still cells r k x (columns x) (omega (arith, ends))))
              ∙ more.1,
        )

module _ (still : Constants) (s : Screenshot) (rows_are : s.rows ≡ still.rows) (cols_are : s.cols ≡ still.cols) (painting : IsScreenshot s)
    (r k : ℕ) (r_in : r < s.rows) (k_in : k < s.cols) (some : is_right_half (shown_at s r k) ≡ false)
    (cells : List Glyph) (shows : (i j : ℕ) → i < still.rows → j < still.cols → cell_at still.cols cells i j ≡ shown_at s i j) (visible : Bool)
    (ends : k + columns (shown_at s r k) ≡ s.cols) where
  abbrev y : Glyph
  y = shown_at s r k

  abbrev once : Printed still cells r k y visible (acted (map Print y.points) (at_work still cells r k false y.style visible None))
  once = again still s rows_are cols_are painting r k r_in k_in some cells shows visible

  stands_so : (cells' : List Glyph) × (last : Option ℕ)
      × (acted (map Print y.points) (at_work still cells r k false y.style visible None) ≡ at_work still cells' r (still.cols - 1) true y.style visible last)
  stands_so = waits still r y.style visible cells k (omega (arith, r_in, rows_are)) (omega (arith, k_in, cols_are)) y.points
      (paintable_shown s painting r k r_in k_in).text some (ends ∙ cols_are)

  pended : (last : Option ℕ) × (acted (rewritten y) (at_work still cells r k false default_style visible None)
      ≡ at_work still once.cells' r (still.cols - 1) true y.style visible last)
  pended =
      let cell = paintable_shown s painting r k r_in k_in in
      let styled = restyled still cells r k false visible default_style y.style None cell.foreground cell.background in
      let two = sym once.is ∙ stands_so.2 in (
        once.printed',
        acted-append (restyle y.style) (map Print y.points) (at_work still cells r k false default_style visible None)
            ∙ ap (acted (map Print y.points)) styled ∙ once.is
            ∙ ap (λ c. at_work still once.cells' r c once.pending' y.style visible once.printed') (ap (λ (u : Live). u.screen.col) two)
            ∙ ap (λ b. at_work still once.cells' r (still.cols - 1) b y.style visible once.printed') (ap (λ (u : Live). u.screen.pending) two),
      )

-- ---- the whole

module _ (t : Live) (r : Repaint) (plain : IsPlain t) (is : IsRepaint t r) where
  abbrev k : Constants
  k = constants_of t

  abbrev s : Screenshot
  s = r.shot

  abbrev Done : Live → Type 0
  Done u = IsRepainted t r u

  row_in : s.cursor_row - 1 < s.rows
  row_in = let a = is.shot.cursor.row_to in let b = is.shot.cursor.row_from in omega (arith, a, b)

  col_in : s.cursor_col - 1 < s.cols
  col_in = let a = is.shot.cursor.col_to in let b = is.shot.cursor.col_from in omega (arith, a, b)

  tall : 1 < t.screen.rows
  tall = let a = is.shot.size.least_rows in let b = is.rows in omega (arith, a, b)

  broad : 0 < t.screen.cols
  broad = let a = is.shot.size.least_columns in let b = is.cols in omega (arith, a, b)

  rows_le : s.rows ≤ k.rows
  rows_le = let b = is.rows in omega (arith, b)

  cols_le : s.cols ≤ k.cols
  cols_le = let b = is.cols in omega (arith, b)

  abbrev drawn : List Glyph
  drawn = painted_cells k s rows_le cols_le is.shot t.screen.cells 0 0 false t.modes.cursor_visible

  drawn_shows : (i j : ℕ) → i < t.screen.rows → j < t.screen.cols → cell_at t.screen.cols drawn i j ≡ shown_at s i j
  drawn_shows = painted_shows k s rows_le cols_le is.shot t.screen.cells 0 0 false t.modes.cursor_visible

  abbrev ready : Live
  ready = at_work k drawn (s.cursor_row - 1) (s.cursor_col - 1) false default_style s.visible None

  abbrev row : ℕ
  row = s.cursor_row - 1

  -- the state at the end, in the forms of the painter and of the promise
  abbrev left_so : Bool → List Glyph → ℕ → Bool → Live
  left_so b cells col pending =
      record (at_work k cells row col pending r.style s.visible None) {
        modes = record k.modes { insert = false; reverse_screen = false; origin = false; autowrap = b; cursor_visible = s.visible };
      }

  promised : (b : Bool) (cells : List Glyph) (col : ℕ) (pending : Bool)
      → record {
        screen =
            record {
              rows = t.screen.rows;
              cols = t.screen.cols;
              cells = cells;
              row = row;
              col = col;
              pending = pending;
              top = 0;
              bottom = t.screen.rows - 1;
              stops = t.screen.stops;
            };
        other = t.other;
        alternate = false;
        pen = record { style = r.style; guarded = false };
        modes = record t.modes { autowrap = b; cursor_visible = s.visible };
        sets = record t.sets { g0 = Ascii; locked = G0 };
        saved = t.saved;
        saved_alternate = t.saved_alternate;
        printed = None;
      }
      ≡ left_so b cells col pending
  promised b cells col pending i = record {
    screen =
        record {
          rows = t.screen.rows;
          cols = t.screen.cols;
          cells = cells;
          row = row;
          col = col;
          pending = pending;
          top = 0;
          bottom = t.screen.rows - 1;
          stops = t.screen.stops;
        };
    other = t.other;
    alternate = false;
    pen = record { style = r.style; guarded = false };
    modes = record {
      insert = plain.replaces i;
      newline = t.modes.newline;
      cursor_keys = t.modes.cursor_keys;
      reverse_screen = plain.reverse i;
      origin = plain.origin i;
      autowrap = b;
      cursor_visible = s.visible;
      bracketed_paste = t.modes.bracketed_paste;
      application_keypad = t.modes.application_keypad;
    };
    sets = record { g0 = Ascii; g1 = t.sets.g1; g2 = t.sets.g2; g3 = t.sets.g3; locked = G0; single = plain.single i };
    saved = t.saved;
    saved_alternate = t.saved_alternate;
    printed = None;
  }

  kept_so : (b pending : Bool) (cells : List Glyph) (col : ℕ) (u : Live) → r.wraps ≡ b → r.pending ≡ pending → column_after r ≡ col
      → ((i j : ℕ) → i < t.screen.rows → j < t.screen.cols → cell_at t.screen.cols cells i j ≡ shown_at s i j)
      → u ≡ left_so b cells col pending → Done u
  kept_so b pending cells col u w p c shows e = record {
    cells = cells;
    is =
        e ∙ ap (λ x. left_so x cells col pending) (sym w) ∙ ap (λ x. left_so r.wraps cells x pending) (sym c)
        ∙ ap (λ x. left_so r.wraps cells (column_after r) x) (sym p) ∙ sym (promised r.wraps cells (column_after r) r.pending);
    places = shows;
  }

  -- lines wrap or don't
  wraps-or : (b pending : Bool) (cells : List Glyph) (col : ℕ) → (pending ≡ true → b ≡ true)
      → acted (if b then [] else wrap_off ∷ []) (at_work k cells row col pending r.style s.visible None) ≡ left_so b cells col pending
  unfolding changed_by wrap_cleared
  wraps-or true pending cells col may = refl
  wraps-or false true cells col may = absurd (false≢true (may refl))
  wraps-or false false cells col may = refl

  -- a style is set, and lines wrap or don't
  ended : (pending : Bool) (cells : List Glyph) (col : ℕ) (g : Style) (last : Option ℕ) → (pending ≡ true → r.wraps ≡ true)
      → acted (restyle r.style ++ (if r.wraps then [] else wrap_off ∷ [])) (at_work k cells row col pending g s.visible last)
      ≡ left_so r.wraps cells col pending
  ended pending cells col g last may =
      acted-append (restyle r.style) (if r.wraps then [] else wrap_off ∷ []) (at_work k cells row col pending g s.visible last)
      ∙ ap (acted (if r.wraps then [] else wrap_off ∷ [])) (restyled k cells row col pending s.visible g r.style last is.style.foreground is.style.background)
      ∙ wraps-or r.wraps pending cells col may

  abbrev after_all : Bool → List Function
  after_all b = (if b then rewritten (cell_there s) else []) ++ (restyle r.style ++ (if r.wraps then [] else wrap_off ∷ []))

  finished : (b : Bool) → r.pending ≡ b → Done (acted (after_all b) ready)
  finished false e =
      kept_so r.wraps false drawn (s.cursor_col - 1) _ refl e (ap (λ b. if b then s.cols - 1 else s.cursor_col - 1) e) drawn_shows
      (ended false drawn (s.cursor_col - 1) default_style None (λ h. absurd (false≢true h)))
  finished true e =
      let may = is.pends e in
      let there = pended k s is.rows is.cols is.shot row (s.cursor_col - 1) row_in col_in may.whole drawn drawn_shows s.visible may.last in
      let cells = (again k s is.rows is.cols is.shot row (s.cursor_col - 1) row_in col_in may.whole drawn drawn_shows s.visible).cells' in
      let style = (cell_there s).style in
      kept_so r.wraps true cells (t.screen.cols - 1) _ refl e
      (ap (λ b. if b then s.cols - 1 else s.cursor_col - 1) e ∙ ap (λ n. n - 1) is.cols)
      (keeps k s is.rows is.cols is.shot row (s.cursor_col - 1) row_in col_in may.whole drawn drawn_shows s.visible)
      (acted-append (rewritten (cell_there s)) (restyle r.style ++ (if r.wraps then [] else wrap_off ∷ [])) ready
      ∙ ap (acted (restyle r.style ++ (if r.wraps then [] else wrap_off ∷ []))) there.1
      ∙ ended true cells (t.screen.cols - 1) style there.0 (λ h. may.wraps))

  repaints : Done (live_after t (repainting r))
  unfolding repainting_rest
  repaints =
      let body = functions_between (other_screen s) s in
      let start = at_work k t.screen.cells 0 0 false default_style t.modes.cursor_visible None in
      subst Done
      (sym (ap (acted (body ++ after_all r.pending)) (grounded t plain tall broad)
      ∙ acted-append body (after_all r.pending) start
      ∙ ap (acted (after_all r.pending)) (painted k s rows_le cols_le is.shot t.screen.cells 0 0 false t.modes.cursor_visible)))
      (finished r.pending refl)

pub text_repaints : TextRepaints
text_repaints t r plain is = repaints t r plain is
