-- One row after another is drawn.
use Rattle.std.proofs.Common.{◌≡◌, ◌≤◌, ◌<◌, ℕ, zero, suc, ◌+◌, ◌-◌, Bool, true, false, not, ◌&&◌, ◌||◌, inl, inr, List, [], ◌∷◌, ◌++◌, map, Option, None, refl, sym, ap, ◌∙◌, subst, arith}
use Rattle.std.specs.Prelude.{if◌then◌else◌, nat_lt, ◌==◌}
use Rattle.std.proofs.lemmas.Bool.{false≢true, cases_eq, cases_lt, and_parts, ltb-true, eq-eqb, ne_eqb, ltb-false, not-false}
use Rattle.roam_cells.specs.Glyph.{Glyph, is_wide, is_right_half, blank, default_style}
use Rattle.roam_cells.specs.Place.{cell_at}
use Rattle.roam_cells.specs.Same.{same, same_style}
use Rattle.roam_cells.specs.declared.styles.Style.{Style}
use Rattle.roam_cells.proofs.SameCells.{glyph_same, glyph_again}
use Rattle.roam_rows.specs.Erasing.{erasure_source}
use Rattle.roam_rows.specs.Places.{in_row, mapped_cells}
use Rattle.roam_text.specs.declared.functions.Function.{Function}
use Rattle.roam_text.specs.declared.functions.Function.TheVariants.{Print}
use Rattle.roam_term.specs.Terminal.{Live, changed_by}
use Rattle.roam_term.specs.ControlFunctions.{place_cursor}
use Rattle.roam_term.proofs.Steps.{acted, acted-append, Constants, at_work, goes}
use Rattle.roam_paint.specs.Painting.{Places, is_drawn, goes_on, placing, styling, drawn_cell, style_after, style_in}
use Rattle.roam_paint.proofs.Walk.{IsPaintable, Walked, step_by}
use Rattle.roam_scroll_paint.specs.Bands.{to_row}
use Rattle.roam_scroll_paint.specs.Rows.{Marks, is_marked, placing_at, written_cell, written_row, doubt_in, erase_line, ends_at, erasing_from, style_left, row_functions, row_style_left, IsPlan, AreDrawn, nothing, stays, written}
use Rattle.roam_scroll_paint.specs.Styles.{styled_from}
use Rattle.roam_scroll_paint.proofs.Wholes.{IsWhole}
use Rattle.roam_scroll_paint.proofs.Erasing.{erases_line, keeps_other_row, keeps_left, blanks_right}
use Rattle.roam_scroll_paint.proofs.Styling.{styling_is, styled_is}

-- CUP without a column is CUP with the first
to_row_is : (r : ℕ) (t : Live) → changed_by (to_row r) t ≡ changed_by (place_cursor r 1) t
unfolding changed_by
to_row_is r t = refl

pub placing_is : (r c : ℕ) (t : Live) → changed_by (placing_at r c) t ≡ changed_by (place_cursor (r + 1) (c + 1)) t
placing_is r c t =
    elim (cases_eq c 0) [
      | inl e ↦
          ap (λ b. changed_by (if b then to_row (r + 1) else place_cursor (r + 1) (c + 1)) t) (eq-eqb c 0 e)
          ∙ to_row_is (r + 1) t ∙ ap (λ x. changed_by (place_cursor (r + 1) (x + 1)) t) (sym e)
      | inr n ↦ ap (λ b. changed_by (if b then to_row (r + 1) else place_cursor (r + 1) (c + 1)) t) (ne_eqb c 0 n)
    ]

placed_is : (b : Bool) (r c : ℕ) (t : Live) → acted (if b then [] else placing_at r c ∷ []) t ≡ acted (if b then [] else place_cursor (r + 1) (c + 1) ∷ []) t
placed_is true r c t = refl
placed_is false r c t = placing_is r c t

module _ (still : Constants) (prows pcols : ℕ) (over new : Places) (rows_in : prows ≤ still.rows) (cols_in : pcols ≤ still.cols) (whole : IsWhole pcols new)
    (paintable : (r c : ℕ) → r < prows → c < pcols → IsPaintable (new r c))
    (beyond : (i j : ℕ) → pcols ≤ j → over i j ≡ new i j) (blank_beyond : (i j : ℕ) → pcols ≤ j → new i j ≡ blank) where
  abbrev rows : ℕ
  rows = still.rows

  abbrev cols : ℕ
  cols = still.cols

  -- a ground terminal with a hidden cursor, in a style
  pub record Works (g : Style) (t : Live) : Type 0 where
    pub cells : List Glyph
    pub row : ℕ
    pub col : ℕ
    pub pending : Bool
    pub last : Option ℕ
    pub is : t ≡ at_work still cells row col pending g false last

  -- it shows the new screen in the first rows, and in each place that already shows the new screen
  pub record Ready (r : ℕ) (g : Style) (t : Live) : Type 0 where
    pub works : Works g t
    pub above : (i j : ℕ) → i < r → i < rows → j < cols → cell_at cols works.cells i j ≡ new i j
    pub rest : (i j : ℕ) → i < rows → j < cols → over i j ≡ new i j → cell_at cols works.cells i j ≡ new i j

  abbrev unlike : ℕ → ℕ → Bool
  unlike i j = not (same (over i j) (new i j))

  module _ (r : ℕ) (g : Style) (t : Live) (marks : Marks) (end : ℕ) (r_in : r < prows) (ready : Ready r g t) (plan : IsPlan over new pcols r marks end) where
    abbrev m : ℕ → ℕ → Bool
    m = is_marked marks

    -- in this row the marked places, in the others the places that differ
    abbrev d : ℕ → ℕ → Bool
    d i j = if i == r then m r j else unlike i j

    d_here : (c : ℕ) → d r c ≡ m r c
    d_here c = ap (λ b. if b then m r c else unlike r c) (eq-eqb r r refl)

    d_there : (i j : ℕ) → (i ≡ r → ⊥) → d i j ≡ unlike i j
    d_there i j n = ap (λ b. if b then m r j else unlike i j) (ne_eqb i r n)

    abbrev W : ℕ → Style → Live → Type 0
    W k s u = Walked still prows pcols d new rows_in cols_in whole.wide whole.half paintable r k s u

    unmarked : (i j : ℕ) → d i j ≡ false → over i j ≡ new i j
    unmarked i j e =
        elim (cases_eq i r) [
          | inr n ↦ glyph_same (over i j) (new i j) (not-false (same (over i j) (new i j)) (sym (d_there i j n) ∙ e))
          | inl a ↦
              let off : m r j ≡ false = sym (d_here j) ∙ ap (λ x. d x j) (sym a) ∙ e in
              elim (cases_lt j pcols) [
                | inl k ↦ ap (λ x. over x j) a ∙ plan.covers j k off ∙ ap (λ x. new x j) (sym a)
                | inr k ↦ beyond i j k
              ]
        ]

    begins : W 0 g t
    begins = record {
      cells = ready.works.cells;
      row = ready.works.row;
      col = ready.works.col;
      pending = ready.works.pending;
      last = ready.works.last;
      is = ready.works.is;
      shown = record {
        above = ready.above;
        before = λ j p q. absurd (omega (arith, p));
        half = λ h q. let low = (whole.half r 0 h).0 in absurd (omega (arith, low));
        rest = λ i j p q e. ready.rest i j p q (unmarked i j e);
      };
      stands = λ p q e h. absurd (omega (arith, p));
      middle = λ q h e. let low = (whole.half r 0 h).0 in absurd (omega (arith, low));
    }

    -- ---- the text is that of a painter which leaves nothing out

    drawn_same : (c : ℕ) → is_drawn m new r c ≡ is_drawn d new r c
    drawn_same c =
        ap (λ x. not (is_right_half (new r c)) && (x || (is_wide (new r c) && m r (c + 1)))) (sym (d_here c))
        ∙ ap (λ x. not (is_right_half (new r c)) && (d r c || (is_wide (new r c) && x))) (sym (d_here (c + 1)))

    goes_same : (c : ℕ) → goes_on m r c ≡ goes_on d r c
    goes_same c =
        ap (λ x. nat_lt 0 c && (x && m r c)) (sym (d_here (c - 1))) ∙ ap (λ x. nat_lt 0 c && (d r (c - 1) && x)) (sym (d_here c))

    styles_same : (k : ℕ) → style_in m new r g k ≡ style_in d new r g k
    unfolding style_after
    styles_same zero = refl
    styles_same (suc k) =
        ap (λ b. if b then (new r k).style else style_in m new r g k) (drawn_same k)
        ∙ ap (λ s. if is_drawn d new r k then (new r k).style else s) (styles_same k)

    placed_works : (b : Bool) (k : ℕ) (s : Style) (u : Live) → k < pcols → Works s u → Works s (acted (if b then [] else place_cursor (r + 1) (k + 1) ∷ []) u)
    placed_works true k s u k_in w = w
    placed_works false k s u k_in w = record {
      cells = w.cells;
      row = r + 1 - 1;
      col = k + 1 - 1;
      pending = false;
      last = None;
      is =
          ap (changed_by (place_cursor (r + 1) (k + 1))) w.is
          ∙ goes still w.cells w.row w.col w.pending s false w.last (r + 1) (k + 1) (omega arith) (omega (arith, r_in, rows_in)) (omega arith) (omega (arith, k_in, cols_in));
    }

    styled_same : (k : ℕ) (s : Style) (u : Live) → k < pcols → Works s u → acted (styled_from s (new r k).style) u ≡ acted (styling (new r k).style s) u
    styled_same k s u k_in w =
        let x = paintable r k r_in k_in in
        ap (acted (styled_from s (new r k).style)) w.is
        ∙ styled_is still w.cells w.row w.col w.pending false (new r k).style s w.last x.foreground x.background
        ∙ sym (styling_is still w.cells w.row w.col w.pending false (new r k).style s w.last x.foreground x.background)
        ∙ ap (acted (styling (new r k).style s)) (sym w.is)

    -- a cell at the cursor's place, or behind CUP
    abbrev text : ℕ → Style → Bool → Bool → List Function
    text k s drawn on = if drawn then (if on then [] else placing_at r k ∷ []) ++ (styled_from s (new r k).style ++ map Print (new r k).points) else []

    written_is : (drawn on : Bool) (k : ℕ) (s : Style) (u : Live) → k < pcols → Works s u → goes_on d r k ≡ on
        → acted (text k s drawn on) u
        ≡ acted (if drawn then placing d r k ++ (styling (new r k).style s ++ map Print (new r k).points) else []) u
    written_is false on k s u k_in w e = refl
    written_is true on k s u k_in w e =
        let x = (new r k).style in
        let chars = map Print (new r k).points in
        let there = acted (placing d r k) u in
        acted-append (if on then [] else placing_at r k ∷ []) (styled_from s x ++ chars) u
        ∙ ap (λ b. acted (styled_from s x ++ chars) (acted (if b then [] else placing_at r k ∷ []) u)) (sym e)
        ∙ ap (acted (styled_from s x ++ chars)) (placed_is (goes_on d r k) r k u)
        ∙ acted-append (styled_from s x) chars there
        ∙ ap (acted chars) (styled_same k s there k_in (placed_works (goes_on d r k) k s u k_in w))
        ∙ sym (acted-append (styling x s) chars there)
        ∙ sym (acted-append (placing d r k) (styling x s ++ chars) u)

    -- a cell is written that is placed as a painter places it which leaves nothing out
    certain : (drawn on : Bool) (k : ℕ) (s : Style) (u : Live) → k < pcols → W k s u → is_drawn d new r k ≡ drawn → goes_on d r k ≡ on
        → W (k + 1) (style_after d new r k s) (acted (text k s drawn on) u)
    unfolding drawn_cell
    certain drawn on k s u k_in w e f =
        let works : Works s u = record { cells = w.cells; row = w.row; col = w.col; pending = w.pending; last = w.last; is = w.is } in
        let plain : Bool → List Function = λ b. if b then placing d r k ++ (styling (new r k).style s ++ map Print (new r k).points) else [] in
        subst (W (k + 1) (style_after d new r k s)) (ap (λ b. acted (plain b) u) e ∙ sym (written_is drawn on k s u k_in works f))
        (step_by still prows pcols d new rows_in cols_in whole.wide whole.half paintable r k s u r_in k_in w (is_drawn d new r k) refl)

    -- the cursor goes to the column where it is
    again : (k : ℕ) (s : Style) (u : Live) → k < pcols → is_right_half (new r k) ≡ false → W k s u → W k s (changed_by (placing_at r k) u)
    again k s u k_in some w = record {
      cells = w.cells;
      row = r + 1 - 1;
      col = k + 1 - 1;
      pending = false;
      last = None;
      is =
          placing_is r k u ∙ ap (changed_by (place_cursor (r + 1) (k + 1))) w.is
          ∙ goes still w.cells w.row w.col w.pending s false w.last (r + 1) (k + 1) (omega arith) (omega (arith, r_in, rows_in)) (omega arith) (omega (arith, k_in, cols_in));
      shown = w.shown;
      stands = λ p q e h. (omega arith, omega arith, refl);
      middle = λ q h e. absurd (false≢true (sym some ∙ h));
    }

    not_half : (h b : Bool) → (not h && b) ≡ true → h ≡ false
    not_half true b e = absurd (false≢true e)
    not_half false b e = refl

    -- and one that may be placed where the row goes on
    doubted : (drawn goes b : Bool) (k : ℕ) (s : Style) (u : Live) → k < pcols → W k s u → is_drawn d new r k ≡ drawn → goes_on d r k ≡ goes
        → W (k + 1) (style_after d new r k s) (acted (text k s drawn (goes && not b)) u)
    doubted drawn false b k s u k_in w e f = certain drawn false k s u k_in w e f
    doubted drawn true false k s u k_in w e f = certain drawn true k s u k_in w e f
    doubted false true true k s u k_in w e f = certain false true k s u k_in w e f
    doubted true true true k s u k_in w e f =
        certain true true k s (changed_by (placing_at r k) u) k_in
        (again k s u k_in (not_half (is_right_half (new r k)) (d r k || (is_wide (new r k) && d r (k + 1))) e) w) e f

    cell_walked : (b : Bool) (k : ℕ) (s : Style) (u : Live) → k < pcols → W k s u → W (k + 1) (style_after d new r k s) (acted (written_cell m new r k s b) u)
    unfolding written_cell
    cell_walked b k s u k_in w =
        subst (W (k + 1) (style_after d new r k s)) (ap (λ x. acted (text k s x (goes_on d r k && not b)) u) (sym (drawn_same k))
        ∙ ap (λ x. acted (text k s (is_drawn m new r k) (x && not b)) u) (sym (goes_same k)))
        (doubted (is_drawn d new r k) (goes_on d r k) b k s u k_in w refl refl)

    abbrev written_to : ℕ → Live
    written_to k = acted (written_row m new r g k) t

    walked : (k : ℕ) → k ≤ pcols → W k (style_in d new r g k) (written_to k)
    unfolding written_row
    walked zero k_in = begins
    walked (suc k) k_in =
        let one : k + 1 ≡ suc k = omega arith in
        let s = style_in d new r g k in
        let b = doubt_in m new r k in
        let is : written_to (suc k) ≡ acted (written_cell m new r k s b) (written_to k) =
        acted-append (written_row m new r g k) (written_cell m new r k (style_in m new r g k) b) t
        ∙ ap (λ x. acted (written_cell m new r k x b) (written_to k)) (styles_same k) in
        subst (W (suc k) (style_after d new r k s)) (sym is)
        (subst (λ n. W n (style_after d new r k s) (acted (written_cell m new r k s b) (written_to k))) one
        (cell_walked b k s (written_to k) (omega (arith, k_in)) (walked k (omega (arith, k_in)))))

    -- ---- the end of the row

    abbrev style : Style
    style = style_in d new r g end

    abbrev doubt : Bool
    doubt = doubt_in m new r end

    wrote : W end style (written_to end)
    wrote = walked end plan.inside

    -- every place of the row has the right cell, and the others stay
    pub record Finished (h : Style) (u : Live) : Type 0 where
      pub works : Works h u
      pub here : (j : ℕ) → j < cols → cell_at cols works.cells r j ≡ new r j
      pub there : (i j : ℕ) → (i ≡ r → ⊥) → i < rows → j < cols → over i j ≡ new i j → cell_at cols works.cells i j ≡ new i j
      pub above : (i j : ℕ) → i < r → i < rows → j < cols → cell_at cols works.cells i j ≡ new i j

    alike : (i j : ℕ) → (i ≡ r → ⊥) → over i j ≡ new i j → d i j ≡ false
    alike i j n e = d_there i j n ∙ ap (λ x. not (same x (new i j))) e ∙ ap not (glyph_again (new i j))

    -- nothing is erased
    whole_row : end ≡ pcols → Finished style (written_to end)
    whole_row full = record {
      works = record { cells = wrote.cells; row = wrote.row; col = wrote.col; pending = wrote.pending; last = wrote.last; is = wrote.is };
      here = λ j q. elim (cases_lt j end) [
        | inl k ↦ wrote.shown.before j k q
        | inr k ↦ wrote.shown.rest r j (omega (arith, r_in, rows_in)) q (d_here j ∙ plan.short j (omega (arith, k, full)))
      ];
      there = λ i j n p q e. wrote.shown.rest i j p q (alike i j n e);
      above = wrote.shown.above;
    }

    module _ (less : end < pcols) where
      end_blank : new r end ≡ blank
      end_blank = plan.blanks end (omega arith) less

      abbrev ready_to : Style → Option ℕ → Live
      ready_to s last = at_work still wrote.cells r end false s false last

      -- the cursor is at the column from which the row is erased
      stands_there : (b : Bool) → (ends_at m r end && not doubt) ≡ b → (last : Option ℕ) × (acted (if b then [] else placing_at r end ∷ []) (written_to end) ≡ ready_to style last)
      stands_there true e =
          let parts = and_parts (nat_lt 0 end) (m r (end - 1)) (and_parts (ends_at m r end) (not doubt) e).0 in
          let at = wrote.stands (ltb-true 0 end parts.0) (omega (arith, less, cols_in)) (d_here (end - 1) ∙ parts.1) (ap is_right_half end_blank) in (
            wrote.last,
            wrote.is ∙ ap (λ a. at_work still wrote.cells a wrote.col wrote.pending style false wrote.last) at.0
                ∙ ap (λ a. at_work still wrote.cells r a wrote.pending style false wrote.last) at.1
                ∙ ap (λ a. at_work still wrote.cells r end a style false wrote.last) at.2,
          )
      stands_there false e =
          let row_back : r + 1 - 1 ≡ r = omega arith in
          let col_back : end + 1 - 1 ≡ end = omega arith in (
            None,
            placing_is r end (written_to end) ∙ ap (changed_by (place_cursor (r + 1) (end + 1))) wrote.is
                ∙ goes still wrote.cells wrote.row wrote.col wrote.pending style false wrote.last (r + 1) (end + 1) (omega arith) (omega (arith, r_in, rows_in)) (omega arith) (omega (arith, less, cols_in))
                ∙ ap (λ a. at_work still wrote.cells a (end + 1 - 1) false style false None) row_back ∙ ap (λ a. at_work still wrote.cells r a false style false None) col_back,
          )

      abbrev cells_left : List Glyph
      cells_left = mapped_cells rows cols wrote.cells (in_row r (erasure_source end cols))

      abbrev erasing : List Function
      erasing = (if (ends_at m r end && not doubt) then [] else placing_at r end ∷ []) ++ (styled_from style default_style ++ erase_line ∷ [])

      erased_is : acted erasing (written_to end) ≡ at_work still cells_left r end false default_style false None
      erased_is =
          let to = if (ends_at m r end && not doubt) then [] else placing_at r end ∷ [] in
          let stood = stands_there (ends_at m r end && not doubt) refl in
          let k = if same_style default_style style then stood.0 else None in
          acted-append to (styled_from style default_style ++ erase_line ∷ []) (written_to end)
          ∙ ap (acted (styled_from style default_style ++ erase_line ∷ [])) stood.1
          ∙ acted-append (styled_from style default_style) (erase_line ∷ []) (ready_to style stood.0)
          ∙ ap (changed_by erase_line) (styled_is still wrote.cells r end false false default_style style stood.0 tt tt)
          ∙ erases_line still wrote.cells r end false default_style false k

      row_erased : Finished default_style (acted erasing (written_to end))
      row_erased = record {
        works = record { cells = cells_left; row = r; col = end; pending = false; last = None; is = erased_is };
        here = λ j q. elim (cases_lt j end) [
          | inl k ↦ keeps_left rows cols pcols new whole cols_in wrote.cells r end (omega (arith, r_in, rows_in)) end_blank j k q (wrote.shown.before j k q)
          | inr k ↦
              blanks_right rows cols pcols new whole cols_in wrote.cells r end j (omega (arith, r_in, rows_in)) k q
              ∙ sym (elim (cases_lt j pcols) [ inl a ↦ plan.blanks j k a | inr a ↦ blank_beyond r j a ])
        ];
        there = λ i j n p q e.
            keeps_other_row rows cols pcols new whole cols_in wrote.cells r end i j p q n (wrote.shown.rest i j p q (alike i j n e));
        above = λ i j a p q.
            keeps_other_row rows cols pcols new whole cols_in wrote.cells r end i j p q (λ e. absurd (omega (arith, a, e))) (wrote.shown.above i j a p q);
      }

    finished : (b : Bool) → nat_lt end pcols ≡ b
        → Finished (if b then default_style else style)
        (acted (if b then (if (ends_at m r end && not doubt) then [] else placing_at r end ∷ []) ++ (styled_from style default_style ++ erase_line ∷ []) else []) (written_to end))
    finished true e = row_erased (ltb-true end pcols e)
    finished false e = let inside = plan.inside in whole_row (omega (arith, ltb-false end pcols e, inside))

    -- ---- the whole row

    row_done : Finished (row_style_left marks new pcols r end g) (acted (row_functions marks new pcols r end g) t)
    unfolding row_functions row_style_left erasing_from style_left
    row_done =
        let own = style_in m new r g end in
        let ending : Style → List Function = λ s. if nat_lt end pcols then (if (ends_at m r end && not doubt) then [] else placing_at r end ∷ []) ++ (styled_from s default_style ++ erase_line ∷ []) else [] in
        let is : acted (written_row m new r g end ++ ending own) t ≡ acted (ending style) (written_to end) =
        acted-append (written_row m new r g end) (ending own) t ∙ ap (λ s. acted (ending s) (written_to end)) (styles_same end) in
        subst (λ u. Finished (if nat_lt end pcols then default_style else own) u) (sym is)
        (subst (λ s. Finished (if nat_lt end pcols then default_style else s) (acted (ending style) (written_to end))) (sym (styles_same end))
        (finished (nat_lt end pcols) refl))

    pub next_ready : Ready (suc r) (row_style_left marks new pcols r end g) (acted (row_functions marks new pcols r end g) t)
    next_ready =
        let f = row_done in
        record {
          works = f.works;
          above = λ i j p a b. elim (cases_eq i r) [
            | inl e ↦ ap (λ x. cell_at cols f.works.cells x j) e ∙ f.here j b ∙ ap (λ x. new x j) (sym e)
            | inr n ↦ f.above i j (omega (arith, p, n)) a b
          ];
          rest = λ i j p q e. elim (cases_eq i r) [
            | inl a ↦ ap (λ x. cell_at cols f.works.cells x j) a ∙ f.here j q ∙ ap (λ x. new x j) (sym a)
            | inr n ↦ f.there i j n p q e
          ];
        }

  -- ---- a row that already shows the right cells

  pub stays_ready : (r : ℕ) (g : Style) (t : Live) → Ready r g t → ((c : ℕ) → c < pcols → over r c ≡ new r c) → Ready (suc r) g t
  stays_ready r g t ready same_row = record {
    works = ready.works;
    above = λ i j p a b. elim (cases_eq i r) [
      | inr n ↦ ready.above i j (omega (arith, p, n)) a b
      | inl e ↦
          ready.rest i j a b (ap (λ x. over x j) e
          ∙ (elim (cases_lt j pcols) [ inl k ↦ same_row j k | inr k ↦ beyond r j k ]) ∙ ap (λ x. new x j) (sym e))
    ];
    rest = ready.rest;
  }

  -- ---- all rows

  pub rows_ready : {n : ℕ} {g : Style} {fs : List Function} → AreDrawn over new pcols n g fs → (t : Live) → n ≤ prows → Ready 0 default_style t → Ready n g (acted fs t)
  rows_ready nothing t n_in ready = ready
  rows_ready (stays r g fs drawn same_row) t n_in ready = stays_ready r g (acted fs t) (rows_ready drawn t (omega (arith, n_in)) ready) same_row
  rows_ready (written r end g fs marks drawn plan) t n_in ready =
      subst (Ready (suc r) (row_style_left marks new pcols r end g)) (sym (acted-append fs (row_functions marks new pcols r end g) t))
      (next_ready r g (acted fs t) marks end (omega (arith, n_in)) (rows_ready drawn t (omega (arith, n_in)) ready) plan)
