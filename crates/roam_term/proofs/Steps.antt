-- The effect of control functions and characters on a ground terminal, which may have a style.
use Rattle.std.proofs.Common.{◌≡◌, ◌≤◌, ◌<◌, ℕ, ◌+◌, ◌-◌, ◌*◌, min, max, Bool, true, false, not, List, [], ◌∷◌, ◌++◌, map, length, set, Option, Some, None, leb, inl, inr, refl, sym, ap, ◌∙◌, subst, arith, append_assoc, length-set, length-append, get_or-set_same, get_or-set_other}
use Rattle.std.specs.Prelude.{◌==◌, ◌&&◌, ◌⊎◌, unwrap_or, nat_le, if◌then◌else◌}
use Rattle.std.proofs.lemmas.Bool.{lt-ltb, le-ltb, le-leb, leb-true, eq-eqb, eqb-true, ne_eqb, false≢true, cases_lt, and_parts, and_from}
use Rattle.std.proofs.lemmas.List.{append-nil}
use Rattle.std.proofs.lemmas.Nat.{same_from_place}
use Rattle.roam_cells.specs.Width.{width_of, is_answer_zero, is_joiner}
use Rattle.roam_cells.specs.Glyph.{IsColour, Glyph, is_wide, is_wide_text, is_right_half, is_empty_text, is_text, is_cell_text, are_joiners, right_of, with_point, blank}
use Rattle.roam_cells.specs.Place.{cell_at}
use Rattle.roam_cells.specs.declared.styles.Style.{Style}
use Rattle.roam_cells.specs.declared.styles.Colour.{Colour}
use Rattle.roam_cells.specs.declared.styles.Colour.TheVariants.{Default, Index, Rgb}
use Rattle.roam_controls.specs.Renditions.{coloured_style}
use Rattle.roam_controls.specs.declared.renditions.Layer.{Layer}
use Rattle.roam_controls.specs.declared.renditions.Layer.TheVariants.{Foreground, Background}
use Rattle.roam_cells.proofs.Places.{get_or-table, length-table, place_below}
use Rattle.roam_charset.specs.Charsets.{mapped_by}
use Rattle.roam_charset.specs.declared.charsets.Charset.TheVariants.{Ascii}
use Rattle.roam_charset.specs.declared.sets.Element.TheVariants.{G0}
use Rattle.roam_charset.specs.declared.sets.Sets.{Sets}
use Rattle.roam_controls.specs.declared.modes.Modes.{Modes}
use Rattle.roam_grid.specs.Cursor.{moved_to}
use Rattle.roam_grid.specs.Erasing.{page_blanked, erased_in_page}
use Rattle.roam_cells.specs.declared.extents.Extent.TheVariants.{All}
use Rattle.roam_grid.specs.Screen.{Screen}
use Rattle.roam_grid.specs.Writing.{columns, wrap_done, with_room, made_way, after_wrap, after_ink, after_advance, put_on, joined_on}
use Rattle.roam_grid.specs.declared.writing.Writing.{Writing}
use Rattle.roam_rows.specs.Places.{in_row, mapped_cells, moved_at}
use Rattle.roam_rows.specs.Writing.{writing_source, base_column}
use Rattle.roam_text.specs.declared.functions.Function.{Function}
use Rattle.roam_text.specs.declared.functions.Function.TheVariants.{Print}
use Rattle.roam_term.specs.declared.pens.Saved.{Saved}
use Rattle.roam_term.specs.Terminal.{Live, changed_by, live_after, printed_on, written_on}
use Rattle.roam_term.specs.ControlFunctions.{layer_code, plain_colour, plain_style, mixture, set_mixture, restyle, hide_cursor, show_cursor, erase_all, place_cursor, set_style}
use Rattle.roam_term.proofs.Cells.{first_of, by, written_hit, written_half}
use Rattle.roam_term.proofs.Styles.{styled-codes, mixed-codes}

-- functions one after another
abbrev pub acted : List Function → Live → Live
acted fs t = live_after t fs

pub acted-append : (fs gs : List Function) (t : Live) → acted (fs ++ gs) t ≡ acted gs (acted fs t)
acted-append [] gs t = refl
acted-append (f ∷ fs) gs t = acted-append fs gs (changed_by f t)

-- the parts that stay: the size, and all that a ground terminal may choose
pub record Constants : Type 0 where
  pub rows : ℕ
  pub cols : ℕ
  pub stops : List Bool
  pub other : List Glyph
  pub modes : Modes
  pub sets : Sets
  pub saved : Option Saved
  pub saved_alternate : Option Saved

-- a ground terminal in a style
module _ (k : Constants) where
  abbrev pub screen_at : List Glyph → ℕ → ℕ → Bool → Screen
  screen_at cells row col pending =
      record { rows = k.rows; cols = k.cols; cells = cells; row = row; col = col; pending = pending; top = 0; bottom = k.rows - 1; stops = k.stops }

  abbrev pub at_work : List Glyph → ℕ → ℕ → Bool → Style → Bool → Option ℕ → Live
  at_work cells row col pending g visible printed =
      record {
        screen = screen_at cells row col pending;
        other = k.other;
        alternate = false;
        pen = record { style = g; guarded = false };
        modes = record k.modes { insert = false; reverse_screen = false; origin = false; autowrap = true; cursor_visible = visible };
        sets = record k.sets { g0 = Ascii; locked = G0; single = None };
        saved = k.saved;
        saved_alternate = k.saved_alternate;
        printed = printed;
      }

  module _ (cells : List Glyph) (row col : ℕ) (pending : Bool) (g : Style) (visible : Bool) (printed : Option ℕ) where
    -- CUP
    pub goes : (r c : ℕ) → 1 ≤ r → r ≤ k.rows → 1 ≤ c → c ≤ k.cols
        → changed_by (place_cursor r c) (at_work cells row col pending g visible printed) ≡ at_work cells (r - 1) (c - 1) false g visible None
    unfolding changed_by moved_to
    goes r c a b d e =
        let row_is : min (max r 1 - 1) (k.rows - 1) ≡ r - 1 = omega (arith, a, b) in
        let col_is : min (max c 1 - 1) (k.cols - 1) ≡ c - 1 = omega (arith, d, e) in
        ap (λ x. at_work cells x (min (max c 1 - 1) (k.cols - 1)) false g visible None) row_is
        ∙ ap (λ x. at_work cells (r - 1) x false g visible None) col_is

    -- SGR
    pub restyles : (s : Style) → IsColour s.foreground → IsColour s.background
        → changed_by (set_style s) (at_work cells row col pending g visible printed) ≡ at_work cells row col pending (plain_style s) visible None
    unfolding changed_by
    restyles s a b = ap (λ x. at_work cells row col pending x visible None) (styled-codes s g a b)

    pub mixes : (layer : Layer) (r h b : ℕ) → IsColour (Rgb r h b)
        → changed_by (mixture (layer_code layer) r h b) (at_work cells row col pending g visible printed)
        ≡ at_work cells row col pending (coloured_style layer (Rgb r h b) g) visible None
    unfolding changed_by
    mixes layer r h b is = ap (λ x. at_work cells row col pending x visible None) (mixed-codes layer g r h b is)

    -- DECTCEM
    pub hides : changed_by hide_cursor (at_work cells row col pending g visible printed) ≡ at_work cells row col pending g false None
    unfolding changed_by
    hides = refl

    pub reveals : changed_by show_cursor (at_work cells row col pending g visible printed) ≡ at_work cells row col pending g true None
    unfolding changed_by
    reveals = refl

    -- ED 2
    pub erases : changed_by erase_all (at_work cells row col pending g visible printed)
        ≡ at_work (mapped_cells k.rows k.cols cells (page_blanked All row col)) row col false g visible None
    unfolding changed_by erased_in_page
    erases = refl

  -- ---- a style is set whole

  module _ (cells : List Glyph) (row col : ℕ) (pending : Bool) (visible : Bool) where
    abbrev styled_so : Style → Live
    styled_so s = at_work cells row col pending s visible None

    mixed_in : (layer : Layer) (x : Colour) (s : Style) → IsColour x
        → acted (set_mixture (layer_code layer) x) (styled_so (coloured_style layer (plain_colour x) s)) ≡ styled_so (coloured_style layer x s)
    mixed_in layer Default s h = refl
    mixed_in layer (Index n) s h = refl
    mixed_in Foreground (Rgb r g b) s h = mixes cells row col pending (coloured_style Foreground Default s) visible None Foreground r g b h
    mixed_in Background (Rgb r g b) s h = mixes cells row col pending (coloured_style Background Default s) visible None Background r g b h

    pub restyled : (g s : Style) (printed : Option ℕ) → IsColour s.foreground → IsColour s.background
        → acted (restyle s) (at_work cells row col pending g visible printed) ≡ styled_so s
    restyled g s printed a b =
        ap (acted (set_mixture 38 s.foreground ++ set_mixture 48 s.background)) (restyles cells row col pending g visible printed s a b)
        ∙ acted-append (set_mixture 38 s.foreground) (set_mixture 48 s.background) (styled_so (plain_style s))
        ∙ ap (acted (set_mixture 48 s.background)) (mixed_in Foreground s.foreground (coloured_style Background (plain_colour s.background) s) a)
        ∙ mixed_in Background s.background s b

  -- ---- a cell is put

  -- cells replace the ones there, and lines wrap
  abbrev w : Writing
  w = record { wraps = true; inserts = false }

  module _ (cells : List Glyph) (row col : ℕ) (x : Glyph) where
    abbrev s : Screen
    s = screen_at cells row col false

    never : {X : Type 0} (b : Bool) (u v : X) → (if (b && false) then u else v) ≡ v
    never true u v = refl
    never false u v = refl

    room_is : (b : Bool) → is_wide x ≡ b → (b ≡ true → col + 1 < k.cols) → with_room (columns x) w s ≡ s
    unfolding with_room
    room_is false h fits = ap (λ t. if (((if t then 2 else 1) == 2) && (col + 1 == k.cols)) then after_wrap s else s) h
    room_is true h fits =
        let inside = fits refl in
        ap (λ b. if ((columns x == 2) && b) then after_wrap s else s) (ne_eqb (col + 1) k.cols (λ e. absurd (omega (arith, inside, e))))
        ∙ never (columns x == 2) (after_wrap s) s

    put_is : (is_wide x ≡ true → col + 1 < k.cols) → put_on x w s ≡ after_advance (columns x) w (after_ink x s)
    unfolding put_on wrap_done made_way
    put_is fits = ap (λ u. after_advance (columns x) w (after_ink x u)) (room_is (is_wide x) refl fits)

    abbrev inside : ℕ → Screen
    inside n = screen_at (mapped_cells k.rows k.cols cells (in_row row (writing_source x col))) row (col + n) false

    abbrev outside : Screen
    outside = screen_at (mapped_cells k.rows k.cols cells (in_row row (writing_source x col))) row (k.cols - 1) true

    pub advances : (n : ℕ) → col + n < k.cols → after_advance n w (after_ink x s) ≡ inside n
    unfolding after_advance after_ink
    advances n h = ap (λ b. if b then inside n else outside) (lt-ltb (col + n) k.cols h)

    pub pends : (n : ℕ) → k.cols ≤ col + n → after_advance n w (after_ink x s) ≡ outside
    unfolding after_advance after_ink
    pends n h = ap (λ b. if b then inside n else outside) (le-ltb (col + n) k.cols h)

  -- ---- a character is printed at the cursor, and no wrap is pending

  -- the cursor after a cell of so many columns
  abbrev StandsAt : ℕ → ℕ → ℕ → Bool → Type 0
  StandsAt col n col' pending' = ((pending' ≡ false) × (col' ≡ col + n)) ⊎ ((pending' ≡ true) × (col' ≡ k.cols - 1) × (col + n ≡ k.cols))

  -- its cell is there, and every other place is as its first character left it; inside the row the cursor is behind it
  pub record Printed (cells : List Glyph) (row col : ℕ) (x : Glyph) (visible : Bool) (t : Live) : Type 0 where
    pub cells' : List Glyph
    pub col' : ℕ
    pub pending' : Bool
    pub printed' : Option ℕ
    pub is : t ≡ at_work cells' row col' pending' x.style visible printed'
    pub size : length cells' ≡ k.rows * k.cols
    pub hit : cell_at k.cols cells' row col ≡ x
    pub other : (i j : ℕ) → i < k.rows → j < k.cols → (i ≡ row → j ≡ col → ⊥) → cell_at k.cols cells' i j ≡ cell_at k.cols (mapped_cells k.rows k.cols cells (in_row row (writing_source (first_of x) col))) i j
    pub after : StandsAt col (columns x) col' pending'

  pub stands : (cells : List Glyph) (row col : ℕ) (x : Glyph) (visible : Bool) (t : Live) (p : Printed cells row col x visible t) → col + columns x < k.cols
      → (p.col' ≡ col + columns x) × (p.pending' ≡ false)
  stands cells row col x visible t p h =
      elim p.after [
        | inl a ↦ (a.1, a.0)
        | inr a ↦ let full = a.2 in absurd (omega (arith, h, full))
      ]

  module _ (cells : List Glyph) (row col c : ℕ) (g : Style) (visible : Bool) (printed : Option ℕ) (some : 1 ≤ width_of c) (row_in : row < k.rows) (col_in : col < k.cols) where
    abbrev cell : Glyph
    cell = record { points = c ∷ []; style = g; guarded = false }

    abbrev before : Live
    before = at_work cells row col false g visible printed

    either_way : (b : Bool) (c : ℕ) → (if b then c else c) ≡ c
    either_way true c = refl
    either_way false c = refl

    pub print_is : (is_wide cell ≡ true → col + 1 < k.cols)
        → changed_by (Print c) before ≡ record before { screen = after_advance (columns cell) w (after_ink cell (screen_at cells row col false)); printed = Some c }
    unfolding changed_by printed_on mapped_by
    print_is fits =
        ap (λ m. written_on m before) (either_way (nat_le 0x21 c && nat_le c 0x7E) c)
        ∙ ap (λ b. if b then record before { screen = joined_on c before.screen }
        else record before { screen = put_on cell w (screen_at cells row col false); printed = Some c })
        (ne_eqb (width_of c) 0 (λ e. absurd (omega (arith, some, e))))
        ∙ ap (λ u. record before { screen = u; printed = Some c }) (put_is cells row col cell fits)

    abbrev inked_cells : List Glyph
    inked_cells = mapped_cells k.rows k.cols cells (in_row row (writing_source cell col))

    pub inked_hit : (is_wide cell ≡ true → col + 1 < k.cols) → cell_at k.cols inked_cells row col ≡ cell
    inked_hit fits =
        get_or-table k.rows k.cols (moved_at k.cols cells (in_row row (writing_source cell col))) row col _ row_in col_in
        ∙ written_hit (is_wide cell) cell k.cols cells row col refl refl fits

    fills : (b : Bool) → is_wide cell ≡ b → (b ≡ true → col + 1 < k.cols) → k.cols ≤ col + columns cell → col + columns cell ≡ k.cols
    fills true e fits h = let two : columns cell ≡ 2 = ap (λ b. if b then 2 else 1) e in let fit = fits refl in omega (arith, two, fit, h)
    fills false e fits h = let one : columns cell ≡ 1 = ap (λ b. if b then 2 else 1) e in omega (arith, one, col_in, h)

    prints_first : (is_wide cell ≡ true → col + 1 < k.cols) → Printed cells row col cell visible (changed_by (Print c) before)
    prints_first fits =
        elim (cases_lt (col + columns cell) k.cols) [
          | inl h ↦ record {
            cells' = inked_cells;
            col' = col + columns cell;
            pending' = false;
            printed' = Some c;
            is = print_is fits ∙ ap (λ u. record before { screen = u; printed = Some c }) (advances cells row col cell (columns cell) h);
            size = length-table k.rows k.cols _;
            hit = inked_hit fits;
            other = λ i j p q e. refl;
            after = inl (refl, refl);
          }
          | inr h ↦ record {
            cells' = inked_cells;
            col' = k.cols - 1;
            pending' = true;
            printed' = Some c;
            is = print_is fits ∙ ap (λ u. record before { screen = u; printed = Some c }) (pends cells row col cell (columns cell) h);
            size = length-table k.rows k.cols _;
            hit = inked_hit fits;
            other = λ i j p q e. refl;
            after = inr (refl, refl, fills (is_wide cell) refl fits h);
          }
        ]

  -- ---- characters of width 0 join it

  abbrev joined_at : List Glyph → ℕ → ℕ → ℕ → List Glyph
  joined_at cells row col j =
      set cells (row * k.cols + base_column k.cols cells row col) (with_point j (cell_at k.cols cells row (base_column k.cols cells row col)))

  either_or : (b : Bool) (c : ℕ) → (if b then c else c) ≡ c
  either_or true c = refl
  either_or false c = refl

  zero_width : (o : Option ℕ) → is_answer_zero o ≡ true → (min (unwrap_or o 0) 2 == 0) ≡ true
  zero_width None h = absurd (false≢true h)
  zero_width (Some n) h = ap (λ n. min n 2 == 0) (eqb-true n 0 h)

  joiner_width : (c : ℕ) → is_joiner c ≡ true → (width_of c == 0) ≡ true
  joiner_width c h = search (zero_width, h)

  -- a joining character changes cells alone
  pub joins : (j : ℕ) → is_joiner j ≡ true → (cells : List Glyph) (row col : ℕ) (pending : Bool) (g : Style) (visible : Bool) (printed : Option ℕ)
      → changed_by (Print j) (at_work cells row col pending g visible printed)
      ≡ record (at_work cells row col pending g visible printed) { screen = joined_on j (screen_at cells row col pending) }
  unfolding changed_by printed_on mapped_by
  joins j joins_it cells row col pending g visible printed =
      let here = at_work cells row col pending g visible printed in
      ap (λ m. written_on m here) (either_or (nat_le 0x21 j && nat_le j 0x7E) j)
      ∙ ap (λ b. if b then record here { screen = joined_on j here.screen }
      else record here { screen = put_on (record { points = j ∷ []; style = g; guarded = false }) w here.screen; printed = Some j }) (joiner_width j joins_it)

  one_or_two : (b : Bool) → 1 ≤ (if b then 2 else 1)
  one_or_two true = omega arith
  one_or_two false = omega arith

  some_columns : (c : ℕ) → not (width_of c == 0) ≡ true → 1 ≤ width_of c
  some_columns c h = elim (cases_lt 0 (width_of c)) [
    | inl k ↦ k
    | inr k ↦ absurd (false≢true (sym (ap not (eq-eqb (width_of c) 0 (omega (arith, k)))) ∙ h))
  ]

  cell_text : (c : ℕ) (ps : List ℕ) → 1 ≤ width_of c → are_joiners ps ≡ true → length ps ≤ 2 → is_cell_text (c ∷ ps) ≡ true
  cell_text c ps some joiners few =
      ap (λ t. not t && are_joiners ps && leb (length ps) 2) (ne_eqb (width_of c) 0 (λ e. absurd (omega (arith, some, e))))
      ∙ ap (λ t. t && leb (length ps) 2) joiners ∙ le-leb (length ps) 2 few

  joiners-front : (ps qs : List ℕ) → are_joiners (ps ++ qs) ≡ true → are_joiners ps ≡ true
  joiners-front [] qs h = refl
  joiners-front (p ∷ ps) qs h = let parts = and_parts (is_joiner p) (are_joiners (ps ++ qs)) h in and_from (is_joiner p) (are_joiners ps) parts.0 (joiners-front ps qs parts.1)

  joiners-back : (ps qs : List ℕ) → are_joiners (ps ++ qs) ≡ true → are_joiners qs ≡ true
  joiners-back [] qs h = h
  joiners-back (p ∷ ps) qs h = joiners-back ps qs (and_parts (is_joiner p) (are_joiners (ps ++ qs)) h).1

  module _ (cells : List Glyph) (row col c : ℕ) (g : Style) (visible : Bool) (printed : Option ℕ) (some : 1 ≤ width_of c) (row_in : row < k.rows) (col_in : col < k.cols)
      (fits : is_wide_text (c ∷ []) ≡ true → col + 1 < k.cols) where
    abbrev of : List ℕ → Glyph
    of ps = record { points = c ∷ ps; style = g; guarded = false }

    module _ (ps : List ℕ) (j : ℕ) (t : Live) (p : Printed cells row col (of ps) visible t) (joins_it : is_joiner j ≡ true) (text : is_cell_text (c ∷ (ps ++ j ∷ [])) ≡ true) where
      abbrev last : ℕ
      last = col + columns (of ps) - 1

      abbrev now : List Glyph
      now = p.cells'

      joined_there : joined_on j (screen_at now row p.col' p.pending') ≡ screen_at (joined_at now row last j) row p.col' p.pending'
      unfolding joined_on
      joined_there =
          elim p.after [
            | inl a ↦
                let away : (p.col' == 0) ≡ false = ne_eqb p.col' 0 (λ e. let there = a.1 in let n = one_or_two (is_wide (of ps)) in absurd (omega (arith, e, there, n))) in
                ap (λ b. if b then screen_at (joined_at now row p.col' j) row p.col' p.pending' else (if (p.col' == 0) then screen_at now row p.col' p.pending' else screen_at (joined_at now row (p.col' - 1) j) row p.col' p.pending')) a.0
                ∙ ap (λ b. if b then screen_at now row p.col' p.pending' else screen_at (joined_at now row (p.col' - 1) j) row p.col' p.pending') away
                ∙ ap (λ n. screen_at (joined_at now row (n - 1) j) row p.col' p.pending') a.1
            | inr a ↦
                ap (λ b. if b then screen_at (joined_at now row p.col' j) row p.col' p.pending' else (if (p.col' == 0) then screen_at now row p.col' p.pending' else screen_at (joined_at now row (p.col' - 1) j) row p.col' p.pending')) a.0
                ∙ ap (λ n. screen_at (joined_at now row n j) row p.col' p.pending') (a.1 ∙ ap (λ n. n - 1) (sym a.2))
          ]

      base_by : (b : Bool) → is_wide (of ps) ≡ b → base_column k.cols now row last ≡ col
      base_by false e =
          let here : last ≡ col = ap (λ b. col + (if b then 2 else 1) - 1) e ∙ omega arith in
          ap (base_column k.cols now row) here ∙ ap (λ x. if is_right_half x then col - 1 else col) p.hit
      base_by true e =
          let here : last ≡ col + 1 = ap (λ b. col + (if b then 2 else 1) - 1) e ∙ omega arith in
          let fit = fits e in
          let half : cell_at k.cols now row (col + 1) ≡ right_of (first_of (of ps)) =
          p.other row (col + 1) row_in fit (λ a b. absurd (omega (arith, b)))
          ∙ get_or-table k.rows k.cols (moved_at k.cols cells (in_row row (writing_source (of []) col))) row (col + 1) _ row_in fit
          ∙ ap (λ b. moved_at k.cols cells (by b (of []) row col) row (col + 1)) e ∙ written_half (of []) k.cols cells row col e in
          ap (base_column k.cols now row) here ∙ ap (λ x. if is_right_half x then col + 1 - 1 else col + 1) half ∙ omega arith

      point_is : with_point j (of ps) ≡ of (ps ++ j ∷ [])
      point_is = ap (λ b. if b then of (ps ++ j ∷ []) else of ps) text

      abbrev place : ℕ
      place = row * k.cols + col

      abbrev then_ : List Glyph
      then_ = set now place (of (ps ++ j ∷ []))

      joined_is : joined_at now row last j ≡ then_
      joined_is =
          ap (λ n. set now (row * k.cols + n) (with_point j (cell_at k.cols now row n))) (base_by (is_wide (of ps)) refl)
          ∙ ap (λ x. set now place (with_point j x)) p.hit ∙ ap (set now place) point_is

      join_one : Printed cells row col (of (ps ++ j ∷ [])) visible (changed_by (Print j) t)
      join_one = record {
        cells' = then_;
        col' = p.col';
        pending' = p.pending';
        printed' = p.printed';
        is =
            ap (changed_by (Print j)) p.is ∙ joins j joins_it now row p.col' p.pending' g visible p.printed'
            ∙ ap (λ s. record (at_work now row p.col' p.pending' g visible p.printed') { screen = s }) joined_there
            ∙ ap (λ l. at_work l row p.col' p.pending' g visible p.printed') joined_is;
        size = length-set now place (of (ps ++ j ∷ [])) ∙ p.size;
        hit = get_or-set_same now place (of (ps ++ j ∷ [])) blank (omega (arith, place_below k.rows k.cols row col row_in col_in, p.size));
        other = λ i n a b e.
            get_or-set_other now place (i * k.cols + n) (of (ps ++ j ∷ [])) blank (λ f. let s = same_from_place i n row col k.cols b col_in f in e s.0 s.1)
            ∙ p.other i n a b e;
        after = p.after;
      }

    join_all : (ps js : List ℕ) (t : Live) → are_joiners (ps ++ js) ≡ true → length (ps ++ js) ≤ 2 → Printed cells row col (of ps) visible t
        → Printed cells row col (of (ps ++ js)) visible (acted (map Print js) t)
    join_all ps [] t joiners few p = subst (λ l. Printed cells row col (of l) visible t) (sym (append-nil ps)) p
    join_all ps (j ∷ js) t joiners few p =
        let e : (ps ++ j ∷ []) ++ js ≡ ps ++ (j ∷ js) = append_assoc ps (j ∷ []) js in
        let all : are_joiners ((ps ++ j ∷ []) ++ js) ≡ true = ap are_joiners e ∙ joiners in
        let size : length ((ps ++ j ∷ []) ++ js) ≡ length (ps ++ (j ∷ js)) = ap length e in
        let front : length ((ps ++ j ∷ []) ++ js) ≡ length (ps ++ j ∷ []) + length js = length-append (ps ++ j ∷ []) js in
        let one = and_parts (is_joiner j) (are_joiners js) (joiners-back ps (j ∷ js) joiners) in
        let text = cell_text c (ps ++ j ∷ []) some (joiners-front (ps ++ j ∷ []) js all) (omega (arith, few, size, front)) in
        subst (λ l. Printed cells row col (of l) visible (acted (map Print (j ∷ js)) t)) e
        (join_all (ps ++ j ∷ []) js (changed_by (Print j) t) all (omega (arith, few, size)) (join_one ps j t p one.0 text))

  -- the code points of a cell
  pub prints_all : (cells : List Glyph) (row col : ℕ) (visible : Bool) (printed : Option ℕ) (ps : List ℕ) (g : Style) (guarded : Bool) → row < k.rows → col < k.cols
      → is_text ps ≡ true → is_empty_text ps ≡ false → guarded ≡ false → (is_wide_text ps ≡ true → col + 1 < k.cols)
      → Printed cells row col (record { points = ps; style = g; guarded = guarded }) visible (acted (map Print ps) (at_work cells row col false g visible printed))
  prints_all cells row col visible printed [] g guarded row_in col_in text some free fits = absurd (false≢true (sym some))
  prints_all cells row col visible printed (c ∷ js) g true row_in col_in text some free fits = absurd (false≢true (sym free))
  prints_all cells row col visible printed (c ∷ js) g false row_in col_in text some free fits =
      let first = and_parts (not (width_of c == 0) && are_joiners js) (leb (length js) 2) text in
      let second = and_parts (not (width_of c == 0)) (are_joiners js) first.0 in
      let columns_are = some_columns c second.0 in
      join_all cells row col c g visible printed columns_are row_in col_in fits [] js _ second.1 (leb-true (length js) 2 first.1)
      (prints_first cells row col c g visible printed columns_are row_in col_in fits)
