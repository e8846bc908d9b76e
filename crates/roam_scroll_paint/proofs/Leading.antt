-- A painting leads a ground terminal from one screen to another.
use Rattle.std.proofs.Common.{◌≡◌, ◌≤◌, ◌<◌, ℕ, ◌+◌, ◌-◌, Bool, true, false, inl, inr, List, [], ◌∷◌, ◌++◌, Option, Some, None, refl, sym, ap, ◌∙◌, subst, arith, append_assoc}
use Rattle.std.specs.Prelude.{if◌then◌else◌}
use Rattle.std.proofs.lemmas.Bool.{cases_lt}
use Rattle.std.proofs.lemmas.Grind.{common_steps}
use Rattle.roam_cells.specs.Glyph.{Glyph, blank, default_style}
use Rattle.roam_cells.specs.Place.{cell_at}
use Rattle.roam_cells.specs.Same.{same_style}
use Rattle.roam_cells.specs.declared.extents.Extent.TheVariants.{All}
use Rattle.roam_cells.specs.declared.styles.Style.{Style}
use Rattle.roam_screens.specs.Screenshot.{Screenshot, IsScreenshot}
use Rattle.roam_grid.specs.Erasing.{page_blanked}
use Rattle.roam_rows.specs.Places.{mapped_cells}
use Rattle.roam_text.specs.declared.functions.Function.{Function}
use Rattle.roam_term.specs.ControlFunctions.{hide_cursor, show_cursor}
use Rattle.roam_term.specs.Ground.{IsGround, ShowsScreen, shown_at}
use Rattle.roam_term.specs.Terminal.{Live, changed_by, term}
use Rattle.roam_term.proofs.Grounds.{constants_of, at_rest, erased_shows}
use Rattle.roam_term.proofs.Steps.{acted, acted-append, Constants, at_work, goes, hides, reveals, erases}
use Rattle.roam_paint.specs.Painting.{same_size}
use Rattle.roam_paint.proofs.Places.{shown_below, shown_right, same_rows, same_cols}
use Rattle.roam_paint.proofs.Whole.{wide_shown, half_shown, paintable_shown}
use Rattle.roam_scroll_paint.specs.declared.bands.Band.{Band}
use Rattle.roam_scroll_paint.specs.Bands.{FitsBand, taken, moved_source, source_of, drawn_over, preparing}
use Rattle.roam_scroll_paint.specs.Rows.{placing_at, AreDrawn}
use Rattle.roam_scroll_paint.specs.Styles.{styled_from}
use Rattle.roam_scroll_paint.specs.Painting.{settling, hiding, revealing, ArePainting}
use Rattle.roam_scroll_paint.specs.Leads.{PaintingLeads, IsLedTo}
use Rattle.roam_scroll_paint.proofs.Readings.{AreRead, read-append, ArePlain, plain-append, are_read, acted-blind, seen, rests, term-acted}
use Rattle.roam_scroll_paint.proofs.Wholes.{IsWhole}
use Rattle.roam_scroll_paint.proofs.Going.{moves}
use Rattle.roam_scroll_paint.proofs.Styling.{styled_is}
use Rattle.roam_scroll_paint.proofs.RowsDrawn.{Ready, rows_ready, placing_is}
use Rattle.roam_scroll_paint.proofs.Legibles.{plain-preparing, plain-rows, plain-styled, plain-placed, read-hiding, read-revealing}

-- ---- outside both screens nothing differs

below_band : (b : Band) (r : ℕ) → b.bottom ≤ r → moved_source b r ≡ Some r
below_band b r h = grind (arith, common_steps)

module _ (old new : Screenshot) where
  right_of_old : (o : Option ℕ) (c : ℕ) → old.cols ≤ c → taken (shown_at old) o c ≡ blank
  right_of_old (Some r) c h = shown_right old r c h
  right_of_old None c h = refl

  beyond_by : (s : Bool) (band : Option Band) (r c : ℕ) → same_size old new ≡ s → new.cols ≤ c → taken (shown_at old) (source_of s band r) c ≡ shown_at new r c
  beyond_by true band r c e h =
      let cols = same_cols old new e in
      right_of_old (source_of true band r) c (omega (arith, h, cols)) ∙ sym (shown_right new r c h)
  beyond_by false band r c e h = sym (shown_right new r c h)

  below_by : (s : Bool) (band : Option Band) (r c : ℕ) → FitsBand new.rows band → same_size old new ≡ s → new.rows ≤ r → taken (shown_at old) (source_of s band r) c ≡ shown_at new r c
  below_by true None r c fits e h =
      let rows = same_rows old new e in
      shown_below old r c (omega (arith, h, rows)) ∙ sym (shown_below new r c h)
  below_by true (Some b) r c fits e h =
      let rows = same_rows old new e in
      let inside = fits.inside in
      ap (λ o. taken (shown_at old) o c) (below_band b r (omega (arith, inside, h)))
      ∙ shown_below old r c (omega (arith, h, rows)) ∙ sym (shown_below new r c h)
  below_by false band r c fits e h = sym (shown_below new r c h)

-- ---- the whole

module _ (still : Constants) (old new : Screenshot) (old_rows : old.rows ≤ still.rows) (old_cols : old.cols ≤ still.cols)
    (rows_in : new.rows ≤ still.rows) (cols_in : new.cols ≤ still.cols) (was : IsScreenshot old) (is_new : IsScreenshot new)
    (band : Option Band) (fits : FitsBand new.rows band) where
  abbrev over : ℕ → ℕ → Glyph
  over = drawn_over old new band

  whole_old : IsWhole old.cols (shown_at old)
  whole_old = record { wide = wide_shown old was; half = half_shown old was }

  whole_new : IsWhole new.cols (shown_at new)
  whole_new = record { wide = wide_shown new is_new; half = half_shown new is_new }

  abbrev R : ℕ → Style → Live → Type 0
  R = Ready still new.rows new.cols over (shown_at new) rows_in cols_in whole_new (paintable_shown new is_new)
      (λ i j h. beyond_by old new (same_size old new) band i j refl h) (λ i j h. shown_right new i j h)

  begun : (cells : List Glyph) (row col : ℕ) (pending : Bool) (last : Option ℕ) (t : Live) → t ≡ at_work still cells row col pending default_style false last
      → ((i j : ℕ) → i < still.rows → j < still.cols → cell_at still.cols cells i j ≡ over i j) → R 0 default_style t
  begun cells row col pending last t is each = record {
    works = record { cells = cells; row = row; col = col; pending = pending; last = last; is = is };
    above = λ i j p a b. absurd (omega (arith, p));
    rest = λ i j p q e. each i j p q ∙ e;
  }

  module _ (cells : List Glyph) (row col : ℕ) (pending : Bool) (printed : Option ℕ)
      (shows : (i j : ℕ) → i < still.rows → j < still.cols → cell_at still.cols cells i j ≡ shown_at old i j) where
    abbrev before : Live
    before = at_work still cells row col pending default_style false printed

    prepared_by : (s : Bool) (b : Option Band) → FitsBand new.rows b → same_size old new ≡ s → ((i j : ℕ) → taken (shown_at old) (source_of s b i) j ≡ over i j)
        → R 0 default_style (acted (preparing s b) before)
    prepared_by true None h e same_over = begun cells row col pending printed before refl (λ i j p q. shows i j p q ∙ same_over i j)
    prepared_by true (Some b) h e same_over =
        let least = is_new.size.least_columns in
        let inside = h.inside in
        let went = moves still.rows still.cols old.cols (shown_at old) whole_old old_cols b.top b.bottom h.two (omega (arith, inside, rows_in))
        still refl refl default_style false cells row col pending printed (omega (arith, least, cols_in)) shows b.count b.up in
        begun went.cells' 0 0 false None (acted (preparing true (Some b)) before) went.is (λ i j p q. went.shows i j p q ∙ same_over i j)
    prepared_by false b h e same_over =
        begun (mapped_cells still.rows still.cols cells (page_blanked All row col)) row col false None (acted (preparing false b) before)
        (erases still cells row col pending default_style false printed)
        (λ i j p q. erased_shows still.rows still.cols cells row col i j p q ∙ same_over i j)

    prepared : R 0 default_style (acted (preparing (same_size old new) band) before)
    prepared = prepared_by (same_size old new) band fits refl (λ i j. refl)

    module _ (style : Style) (rows : List Function) (drawn : AreDrawn over (shown_at new) new.cols new.rows style rows) where
      abbrev body : List Function
      body = preparing (same_size old new) band ++ (rows ++ settling new style)

      ready : R new.rows style (acted rows (acted (preparing (same_size old new) band) before))
      ready = rows_ready still new.rows new.cols over (shown_at new) rows_in cols_in whole_new (paintable_shown new is_new)
          (λ i j h. beyond_by old new (same_size old new) band i j refl h) (λ i j h. shown_right new i j h)
          drawn (acted (preparing (same_size old new) band) before) (omega arith) prepared

      settled : (u : Live) (cells : List Glyph) (row col : ℕ) (pending : Bool) (last : Option ℕ) → u ≡ at_work still cells row col pending style false last
          → acted (settling new style) u ≡ at_work still cells (new.cursor_row - 1) (new.cursor_col - 1) false default_style false None
      settled u cells row col pending last is =
          let a = is_new.cursor.row_from in
          let b = is_new.cursor.row_to in
          let c = is_new.cursor.col_from in
          let e = is_new.cursor.col_to in
          let r = new.cursor_row - 1 in
          let k = new.cursor_col - 1 in
          let printed = if same_style default_style style then last else None in
          let there = at_work still cells row col pending default_style false printed in
          ap (acted (settling new style)) is
          ∙ acted-append (styled_from style default_style) (placing_at r k ∷ []) (at_work still cells row col pending style false last)
          ∙ ap (changed_by (placing_at r k)) (styled_is still cells row col pending false default_style style last tt tt)
          ∙ placing_is r k there
          ∙ goes still cells row col pending default_style false printed (r + 1) (k + 1) (omega arith) (omega (arith, a, b, rows_in)) (omega arith) (omega (arith, c, e, cols_in))
          ∙ ap (λ x. at_work still cells x (k + 1 - 1) false default_style false None) (omega arith)
          ∙ ap (λ x. at_work still cells r x false default_style false None) (omega arith)

      all_is : acted body before ≡ at_work still ready.works.cells (new.cursor_row - 1) (new.cursor_col - 1) false default_style false None
      all_is =
          acted-append (preparing (same_size old new) band) (rows ++ settling new style) before
          ∙ acted-append rows (settling new style) (acted (preparing (same_size old new) band) before)
          ∙ settled (acted rows (acted (preparing (same_size old new) band) before)) ready.works.cells ready.works.row ready.works.col ready.works.pending ready.works.last ready.works.is

      all_shown : (i j : ℕ) → i < still.rows → j < still.cols → cell_at still.cols ready.works.cells i j ≡ shown_at new i j
      all_shown i j p q =
          elim (cases_lt i new.rows) [
            | inl h ↦ ready.above i j h p q
            | inr h ↦ ready.rest i j p q (below_by old new (same_size old new) band i j fits refl h)
          ]

      plain_body : ArePlain body
      plain_body =
          let tall = is_new.size.most_rows in
          let broad = is_new.size.most_columns in
          let row = is_new.cursor.row_to in
          let col = is_new.cursor.col_to in
          plain-append (preparing (same_size old new) band) (rows ++ settling new style)
          (plain-preparing new.rows (same_size old new) band (omega (arith, tall)) fits)
          (plain-append rows (settling new style)
          (plain-rows new.rows new.cols over (shown_at new) (omega (arith, tall)) (omega (arith, broad)) (paintable_shown new is_new) drawn (omega arith))
          (plain-append (styled_from style default_style) (placing_at (new.cursor_row - 1) (new.cursor_col - 1) ∷ [])
          (plain-styled style default_style tt tt)
          (plain-placed (new.cursor_row - 1) (new.cursor_col - 1) (omega (arith, row, tall)) (omega (arith, col, broad)))))

  -- ---- the end

  abbrev ended : List Glyph → Live
  ended cells = at_work still cells (new.cursor_row - 1) (new.cursor_col - 1) false default_style new.visible None

  ends_ground : (cells : List Glyph) → IsGround (ended cells)
  ends_ground cells =
      let a = is_new.cursor.row_to in
      let b = is_new.cursor.col_to in
      let c = is_new.cursor.row_from in
      let e = is_new.cursor.col_from in
      record {
        main = refl;
        row_in = omega (arith, a, c, rows_in);
        col_in = omega (arith, b, e, cols_in);
        top = refl;
        bottom = refl;
        ascii = refl;
        locked = refl;
        single = refl;
        replaces = refl;
        origin = refl;
        reverse = refl;
        wraps = refl;
        pen = refl;
      }

  ends_shown : (cells : List Glyph) → ((i j : ℕ) → i < still.rows → j < still.cols → cell_at still.cols cells i j ≡ shown_at new i j) → ShowsScreen (ended cells) new
  ends_shown cells each =
      let c = is_new.cursor.row_from in
      let e = is_new.cursor.col_from in
      record {
        rows = rows_in;
        cols = cols_in;
        places = each;
        cursor_row = omega (arith, c);
        cursor_col = omega (arith, e);
        visible = refl;
      }

-- ---- a painting

last_of : (a b c d : List Function) (t : Live) → acted (a ++ (b ++ (c ++ d))) t ≡ acted d (acted (a ++ (b ++ c)) t)
last_of a b c d t =
    acted-append a (b ++ (c ++ d)) t ∙ acted-append b (c ++ d) (acted a t) ∙ acted-append c d (acted b (acted a t))
    ∙ ap (acted d) (sym (acted-append b c (acted a t)) ∙ sym (acted-append a (b ++ c) t))

-- the state at the end of a painting
record Ends (still : Constants) (new : Screenshot) (t : Live) : Type 0 where
  cells : List Glyph
  is : t ≡ at_work still cells (new.cursor_row - 1) (new.cursor_col - 1) false default_style new.visible None
  shows : (i j : ℕ) → i < still.rows → j < still.cols → cell_at still.cols cells i j ≡ shown_at new i j

module _ (t : Live) (old new : Screenshot) (fs : List Function) (ground : IsGround t) (shows : ShowsScreen t old)
    (rows_in : new.rows ≤ t.screen.rows) (cols_in : new.cols ≤ t.screen.cols) (was : IsScreenshot old) (is_new : IsScreenshot new) (p : ArePainting old new fs) where
  abbrev still : Constants
  still = constants_of t

  abbrev standing : Bool → Option ℕ → Live
  standing visible printed = at_work still t.screen.cells t.screen.row t.screen.col t.screen.pending default_style visible printed

  abbrev first : List Function
  first = preparing (same_size old new) p.band

  abbrev whole : List Function
  whole = first ++ (p.rows ++ settling new p.style)

  body_is : (printed : Option ℕ)
      → acted whole (standing false printed)
      ≡ at_work still (ready still old new shows.rows shows.cols rows_in cols_in was is_new p.band p.fits t.screen.cells t.screen.row t.screen.col t.screen.pending printed shows.places p.style p.rows p.drawn).works.cells
      (new.cursor_row - 1) (new.cursor_col - 1) false default_style false None
  body_is printed = all_is still old new shows.rows shows.cols rows_in cols_in was is_new p.band p.fits t.screen.cells t.screen.row t.screen.col t.screen.pending printed shows.places p.style p.rows p.drawn

  abbrev cells_of : Option ℕ → List Glyph
  cells_of printed = (ready still old new shows.rows shows.cols rows_in cols_in was is_new p.band p.fits t.screen.cells t.screen.row t.screen.col t.screen.pending printed shows.places p.style p.rows p.drawn).works.cells

  shown_so : (printed : Option ℕ) (i j : ℕ) → i < still.rows → j < still.cols → cell_at still.cols (cells_of printed) i j ≡ shown_at new i j
  shown_so printed = all_shown still old new shows.rows shows.cols rows_in cols_in was is_new p.band p.fits t.screen.cells t.screen.row t.screen.col t.screen.pending printed shows.places p.style p.rows p.drawn

  plain_whole : ArePlain whole
  plain_whole = plain_body still old new shows.rows shows.cols rows_in cols_in was is_new p.band p.fits t.screen.cells t.screen.row t.screen.col t.screen.pending None shows.places p.style p.rows p.drawn

  revealed : (b : Bool) (cells : List Glyph)
      → acted (if b then show_cursor ∷ [] else []) (at_work still cells (new.cursor_row - 1) (new.cursor_col - 1) false default_style false None)
      ≡ at_work still cells (new.cursor_row - 1) (new.cursor_col - 1) false default_style b None
  revealed true cells = reveals still cells (new.cursor_row - 1) (new.cursor_col - 1) false default_style false None
  revealed false cells = refl

  ends_by : (b : Bool) → (b ≡ false → old.visible ≡ new.visible) → Ends still new (acted (hiding b ++ (first ++ (p.rows ++ (settling new p.style ++ revealing b new.visible)))) t)
  ends_by true stays =
      let v = t.modes.cursor_visible in
      let tail = revealing true new.visible in
      record {
        cells = cells_of None;
        is =
            last_of first p.rows (settling new p.style) tail (changed_by hide_cursor t)
            ∙ ap (λ u. acted tail (acted whole (changed_by hide_cursor u))) (at_rest t ground)
            ∙ ap (λ u. acted tail (acted whole u)) (hides still t.screen.cells t.screen.row t.screen.col t.screen.pending default_style v t.printed)
            ∙ ap (acted tail) (body_is None)
            ∙ revealed new.visible (cells_of None);
        shows = shown_so None;
      }
  ends_by false stays =
      let v = t.modes.cursor_visible in
      record {
        cells = cells_of t.printed;
        is =
            last_of first p.rows (settling new p.style) [] t
            ∙ ap (acted whole) (at_rest t ground)
            ∙ acted-blind whole plain_whole v (standing false t.printed)
            ∙ ap (seen v) (body_is t.printed)
            ∙ ap (λ b. at_work still (cells_of t.printed) (new.cursor_row - 1) (new.cursor_col - 1) false default_style b None) (shows.visible ∙ stays refl);
        shows = shown_so t.printed;
      }

  ends : Ends still new (acted fs t)
  ends = subst (λ l. Ends still new (acted l t)) (sym p.all) (ends_by p.hides p.stays)

  read_all : AreRead fs
  read_all =
      let tail = revealing p.hides new.visible in
      let sty = settling new p.style in
      let split : first ++ (p.rows ++ (sty ++ tail)) ≡ whole ++ tail = ap (λ l. first ++ l) (sym (append_assoc p.rows sty tail)) ∙ sym (append_assoc first (p.rows ++ sty) tail) in
      subst AreRead (sym p.all)
      (read-append (hiding p.hides) (first ++ (p.rows ++ (sty ++ tail))) (read-hiding p.hides)
      (subst AreRead (sym split) (read-append whole tail (are_read whole plain_whole) (read-revealing p.hides new.visible))))

  pub goes_over : IsGround (acted fs t) × ShowsScreen (acted fs t) new × ((acted fs t).screen.rows ≡ t.screen.rows) × ((acted fs t).screen.cols ≡ t.screen.cols)
  goes_over = (
    subst IsGround (sym ends.is) (ends_ground still old new shows.rows shows.cols rows_in cols_in was is_new p.band p.fits ends.cells),
    subst (λ u. ShowsScreen u new) (sym ends.is) (ends_shown still old new shows.rows shows.cols rows_in cols_in was is_new p.band p.fits ends.cells ends.shows),
    ap (λ (u : Live). u.screen.rows) ends.is,
    ap (λ (u : Live). u.screen.cols) ends.is,
  )

pub painting_leads : PaintingLeads
painting_leads old new text was is_new p rows cols lines log h rows_in cols_in =
    let fs = p.functions in
    let t = (term rows cols lines log).live in
    let read = read_all t old new fs h.ground h.shows rows_in cols_in was is_new p.painting in
    let is = term-acted log fs h.reader read rows cols lines in
    let over = goes_over t old new fs h.ground h.shows rows_in cols_in was is_new p.painting in
    subst (λ l. IsLedTo rows cols lines log l new) (sym p.spelled)
    (record {
      displays = record {
        reader = rests log fs h.reader read;
        ground = subst IsGround (sym is) over.0;
        shows = subst (λ t. ShowsScreen t new) (sym is) over.1;
      };
      size = record {
        rows = ap (λ (t : Live). t.screen.rows) is ∙ over.2;
        cols = ap (λ (t : Live). t.screen.cols) is ∙ over.3;
      };
    })
