-- A ground terminal goes from one screen to another.
use Rattle.std.proofs.Common.{◌≡◌, ◌≤◌, ◌<◌, ℕ, suc, ◌+◌, ◌-◌, ◌*◌, Bool, true, false, inl, inr, List, [], ◌∷◌, ◌++◌, length, Option, None, refl, sym, ap, ◌∙◌, subst, arith}
use Rattle.std.specs.Prelude.{if◌then◌else◌, All as AllOf}
use Rattle.std.specs.Char.{IsScalar}
use Rattle.std.proofs.lemmas.Bool.{false≢true, cases_lt}
use Rattle.roam_cells.specs.Glyph.{Glyph, is_wide, is_right_half, right_of, blank, default_style}
use Rattle.roam_cells.specs.Place.{cell_at}
use Rattle.roam_screens.specs.Screenshot.{Screenshot, IsScreenshot}
use Rattle.roam_cells.specs.declared.styles.Style.{Style}
use Rattle.roam_cells.proofs.Places.{place_below}
use Rattle.roam_rows.specs.Places.{mapped_cells}
use Rattle.roam_rows.proofs.Mending.{is_wide-blank}
use Rattle.roam_grid.specs.Erasing.{page_blanked}
use Rattle.roam_cells.specs.declared.extents.Extent.TheVariants.{All}
use Rattle.roam_term.specs.Terminal.{Live, changed_by}
use Rattle.roam_term.specs.Ground.{IsGround, ShowsScreen, shown_at}
use Rattle.roam_term.specs.ControlFunctions.{hide_cursor, show_cursor, erase_all, place_cursor, set_style}
use Rattle.roam_paint.specs.Painting.{same_size, painted_over, differs, style_at, drawn_rows, opening, closing, functions_between}
use Rattle.roam_paint.proofs.Places.{shown_inside, shown_below, shown_right, same_below, same_right, same_cell}
use Rattle.roam_term.proofs.Grounds.{constants_of, at_rest, erased_shows}
use Rattle.roam_term.proofs.Steps.{acted, acted-append, Constants, at_work, goes, restyles, hides, reveals, erases}
use Rattle.roam_paint.proofs.Walk.{AreScalars, IsPaintable, Walked, all_rows, all_shown}

scalars_of : (xs : List ℕ) → AllOf IsScalar xs → AreScalars xs
scalars_of [] h = tt
scalars_of (x ∷ xs) h = (h 0 0 (omega arith), scalars_of xs (λ k d p. h (suc k) d (omega (arith, p))))

-- ---- a screen that is shown can be painted

module _ (p : Screenshot) (h : IsScreenshot p) where
  pub wide_shown : (r c : ℕ) → is_wide (shown_at p r c) ≡ true → (c + 1 < p.cols) × (shown_at p r (c + 1) ≡ right_of (shown_at p r c))
  wide_shown r c w =
      elim (cases_lt r p.rows) [
        | inr a ↦ absurd (false≢true (sym is_wide-blank ∙ sym (ap is_wide (shown_below p r c a)) ∙ w))
        | inl a ↦
            elim (cases_lt c p.cols) [
              | inr b ↦ absurd (false≢true (sym is_wide-blank ∙ sym (ap is_wide (shown_right p r c b)) ∙ w))
              | inl b ↦
                  let there = (h.whole r a c b).wide (sym (ap is_wide (shown_inside p r c a b)) ∙ w) in
                  (there.0, shown_inside p r (c + 1) a there.0 ∙ there.1 ∙ sym (ap right_of (shown_inside p r c a b)))
            ]
      ]

  pub half_shown : (r c : ℕ) → is_right_half (shown_at p r c) ≡ true → (0 < c) × (is_wide (shown_at p r (c - 1)) ≡ true)
  half_shown r c w =
      elim (cases_lt r p.rows) [
        | inr a ↦ absurd (false≢true (sym (ap is_right_half (shown_below p r c a)) ∙ w))
        | inl a ↦
            elim (cases_lt c p.cols) [
              | inr b ↦ absurd (false≢true (sym (ap is_right_half (shown_right p r c b)) ∙ w))
              | inl b ↦
                  let there = (h.whole r a c b).half (sym (ap is_right_half (shown_inside p r c a b)) ∙ w) in
                  (there.0, ap is_wide (shown_inside p r (c - 1) a (omega (arith, b))) ∙ there.1)
            ]
      ]

module _ (p : Screenshot) (h : IsScreenshot p) where
  paintable_at : (r c : ℕ) → r < p.rows → c < p.cols → IsPaintable (cell_at p.cols p.cells r c)
  paintable_at r c a b =
      let within : r * p.cols + c < length p.cells = omega (arith, place_below p.rows p.cols r c a b, h.count) in
      let cell = h.shown (r * p.cols + c) within in
      record {
        text = cell.text;
        scalars = scalars_of (cell_at p.cols p.cells r c).points cell.scalars;
        unguarded = h.unguarded (r * p.cols + c) within;
        foreground = cell.style.foreground;
        background = cell.style.background;
      }

  pub paintable_shown : (r c : ℕ) → r < p.rows → c < p.cols → IsPaintable (shown_at p r c)
  paintable_shown r c a b = subst IsPaintable (sym (shown_inside p r c a b)) (paintable_at r c a b)

-- ---- the whole

module _ (still : Constants) (old new : Screenshot) (rows_in : new.rows ≤ still.rows) (cols_in : new.cols ≤ still.cols)
    (painting : IsScreenshot new) where
  abbrev W : ℕ → ℕ → Style → Live → Type 0
  W = Walked still new.rows new.cols (differs old new) (shown_at new) rows_in cols_in (wide_shown new painting) (half_shown new painting) (paintable_shown new painting)

  begun : (cells : List Glyph) (row col : ℕ) (pending : Bool) (t : Live) → t ≡ at_work still cells row col pending default_style false None
      → ((i j : ℕ) → i < still.rows → j < still.cols → cell_at still.cols cells i j ≡ painted_over old new i j) → W 0 0 default_style t
  begun cells row col pending t is each = record {
    cells = cells;
    row = row;
    col = col;
    pending = pending;
    last = None;
    is = is;
    shown = record {
      above = λ i j p a b. absurd (omega (arith, p));
      before = λ j p q. absurd (omega (arith, p));
      half = λ h q. let low = (half_shown new painting 0 0 h).0 in absurd (omega (arith, low));
      rest = λ i j p q e. each i j p q ∙ same_cell old new i j e;
    };
    stands = λ p q e h. absurd (omega (arith, p));
    middle = λ q h e. let low = (half_shown new painting 0 0 h).0 in absurd (omega (arith, low));
  }

  module _ (cells : List Glyph) (row col : ℕ) (pending visible : Bool) (printed : Option ℕ)
      (shows : (i j : ℕ) → i < still.rows → j < still.cols → cell_at still.cols cells i j ≡ shown_at old i j) where
    abbrev before : Live
    before = at_work still cells row col pending default_style visible printed

    opened : (b : Bool) → same_size old new ≡ b → W 0 0 default_style (acted (hide_cursor ∷ (if b then [] else erase_all ∷ [])) before)
    opened true e =
        begun cells row col pending (changed_by hide_cursor before) (hides still cells row col pending default_style visible printed)
        (λ i j p q. shows i j p q ∙ sym (ap (λ b. if b then shown_at old i j else blank) e))
    opened false e =
        begun (mapped_cells still.rows still.cols cells (page_blanked All row col)) row col false (changed_by erase_all (changed_by hide_cursor before))
        (ap (changed_by erase_all) (hides still cells row col pending default_style visible printed) ∙ erases still cells row col pending default_style false None)
        (λ i j p q. erased_shows still.rows still.cols cells row col i j p q ∙ sym (ap (λ b. if b then shown_at old i j else blank) e))

    walked : W new.rows 0 (style_at (differs old new) (shown_at new) new.cols new.rows) (acted (drawn_rows (differs old new) (shown_at new) new.cols new.rows) (acted (opening old new) before))
    walked = all_rows still new.rows new.cols (differs old new) (shown_at new) rows_in cols_in (wide_shown new painting) (half_shown new painting) (paintable_shown new painting)
        (same_below old new) (same_right old new) new.rows (acted (opening old new) before) (omega arith) (opened (same_size old new) refl)

    revealed : (cells : List Glyph) (b : Bool)
        → acted (if b then show_cursor ∷ [] else []) (at_work still cells (new.cursor_row - 1) (new.cursor_col - 1) false default_style false None)
        ≡ at_work still cells (new.cursor_row - 1) (new.cursor_col - 1) false default_style b None
    revealed cells true = reveals still cells (new.cursor_row - 1) (new.cursor_col - 1) false default_style false None
    revealed cells false = refl

    shut : (visible : Bool) (u : Live) (cells : List Glyph) (row col : ℕ) (pending : Bool) (g : Style) (last : Option ℕ)
        → u ≡ at_work still cells row col pending g false last
        → acted (set_style default_style ∷ place_cursor new.cursor_row new.cursor_col ∷ (if visible then show_cursor ∷ [] else [])) u
        ≡ at_work still cells (new.cursor_row - 1) (new.cursor_col - 1) false default_style visible None
    shut visible u cells row col pending g last is =
        let more = if visible then show_cursor ∷ [] else [] in
        let a = painting.cursor.row_to in
        let b = painting.cursor.col_to in
        ap (λ u. acted more (changed_by (place_cursor new.cursor_row new.cursor_col) (changed_by (set_style default_style) u))) is
        ∙ ap (λ u. acted more (changed_by (place_cursor new.cursor_row new.cursor_col) u)) (restyles still cells row col pending g false last default_style tt tt)
        ∙ ap (acted more) (goes still cells row col pending default_style false None new.cursor_row new.cursor_col
        painting.cursor.row_from (omega (arith, a, rows_in)) painting.cursor.col_from (omega (arith, b, cols_in)))
        ∙ revealed cells visible

    final : acted (functions_between old new) before ≡ at_work still walked.cells (new.cursor_row - 1) (new.cursor_col - 1) false default_style new.visible None
    unfolding functions_between
    final =
        let body = drawn_rows (differs old new) (shown_at new) new.cols new.rows in
        acted-append (opening old new) (body ++ closing new) before
        ∙ acted-append body (closing new) (acted (opening old new) before)
        ∙ shut new.visible (acted body (acted (opening old new) before)) walked.cells walked.row walked.col walked.pending _ walked.last walked.is

    pub ends_ground : IsGround (acted (functions_between old new) before)
    ends_ground =
        let a = painting.cursor.row_to in
        let b = painting.cursor.col_to in
        let c = painting.cursor.row_from in
        let e = painting.cursor.col_from in
        subst IsGround (sym final)
        (record {
          main = refl;
          row_in = omega (arith, a, c, rows_in);
          col_in = omega (arith, b, e, cols_in);
          top = refl;
          bottom = refl;
          ascii = refl;
          locked = refl;
          single = refl;
          replaces = refl;
          origin = refl;
          reverse = refl;
          wraps = refl;
          pen = refl;
        })

    pub ends_shown : ShowsScreen (acted (functions_between old new) before) new
    ends_shown =
        let c = painting.cursor.row_from in
        let e = painting.cursor.col_from in
        subst (λ t. ShowsScreen t new) (sym final)
        (record {
          rows = rows_in;
          cols = cols_in;
          places = all_shown still new.rows new.cols (differs old new) (shown_at new) rows_in cols_in (wide_shown new painting) (half_shown new painting) (paintable_shown new painting)
              (same_below old new) (same_right old new) _ _ walked;
          cursor_row = omega (arith, c);
          cursor_col = omega (arith, e);
          visible = refl;
        })

-- A ground terminal that shows the old screen and has at least the new one's size is, after the drawing, a ground terminal of its size that
-- shows the new screen.
pub goes_over : (t : Live) (old new : Screenshot) → IsGround t → ShowsScreen t old → new.rows ≤ t.screen.rows → new.cols ≤ t.screen.cols
    → IsScreenshot new
    → IsGround (acted (functions_between old new) t) × ShowsScreen (acted (functions_between old new) t) new
    × ((acted (functions_between old new) t).screen.rows ≡ t.screen.rows) × ((acted (functions_between old new) t).screen.cols ≡ t.screen.cols)
goes_over t old new ground shows rows_in cols_in painting =
    let P : Live → Type 0 = λ u. IsGround (acted (functions_between old new) u) × ShowsScreen (acted (functions_between old new) u) new
    × ((acted (functions_between old new) u).screen.rows ≡ t.screen.rows) × ((acted (functions_between old new) u).screen.cols ≡ t.screen.cols) in
    let still = constants_of t in
    let cells = t.screen.cells in
    let row = t.screen.row in
    let col = t.screen.col in
    let pending = t.screen.pending in
    let visible = t.modes.cursor_visible in
    let is = final still old new rows_in cols_in painting cells row col pending visible t.printed shows.places in
    subst P (sym (at_rest t ground)) (
      ends_ground still old new rows_in cols_in painting cells row col pending visible t.printed shows.places,
      ends_shown still old new rows_in cols_in painting cells row col pending visible t.printed shows.places,
      ap (λ (u : Live). u.screen.rows) is,
      ap (λ (u : Live). u.screen.cols) is,
    )
