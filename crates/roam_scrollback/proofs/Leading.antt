-- The text of a row leads a terminal whose row awaits it.
use Rattle.std.proofs.Common.{◌≡◌, ◌≤◌, ◌<◌, inl, inr, ℕ, zero, suc, ◌+◌, ◌-◌, Bool, true, false, not, ◌&&◌, ◌||◌, eqb, ltb, List, [], ◌∷◌, ◌++◌, map, Option, None, refl, sym, ap, ◌∙◌, subst, arith, append_assoc}
use Rattle.std.specs.Prelude.{if◌then◌else◌}
use Rattle.std.proofs.lemmas.Bool.{false≢true, lt-ltb, le-ltb, cases_lt, cases_eq, ne_eqb, eq-eqb}
use Rattle.std.proofs.lemmas.List.{append-nil}
use Rattle.roam_cells.specs.Glyph.{Glyph, is_wide, is_right_half, default_style}
use Rattle.roam_cells.specs.Place.{cell_at}
use Rattle.roam_cells.specs.Same.{same_style}
use Rattle.roam_cells.specs.declared.styles.Style.{Style}
use Rattle.roam_cells.proofs.SameCells.{style_same}
use Rattle.roam_screens.specs.Screenshot.{Screenshot, IsScreenshot}
use Rattle.roam_text.specs.declared.functions.Function.{Function}
use Rattle.roam_text.specs.declared.functions.Function.TheVariants.{Print}
use Rattle.roam_term.specs.ControlFunctions.{place_cursor, restyle}
use Rattle.roam_term.specs.Ground.{shown_at}
use Rattle.roam_term.specs.Terminal.{Live, live_after, changed_by}
use Rattle.roam_term.proofs.Grounds.{constants_of, at_rest}
use Rattle.roam_term.proofs.Steps.{acted, acted-append, Constants, at_work, goes, restyled}
use Rattle.roam_paint.specs.Painting.{Places, styling, placing, is_drawn, goes_on, drawn_cell, drawn_row, style_after, style_in}
use Rattle.roam_paint.proofs.Walk.{Walked, row}
use Rattle.roam_paint.proofs.Whole.{wide_shown, half_shown, paintable_shown}
use Rattle.roam_scrollback.specs.Leading.{cells_to, Awaits, Shows, RowTextLeads}
use Rattle.roam_scrollback.specs.RowText.{cell_words, style_behind, row_words}

-- ---- words cell by cell, from the front

front_words : Style → List Glyph → List Function
front_words g [] = []
front_words g (x ∷ xs) = cell_words g x ++ front_words (style_behind g x) xs

front_style : Style → List Glyph → Style
front_style g [] = g
front_style g (x ∷ xs) = front_style (style_behind g x) xs

words-snoc : (g : Style) (xs : List Glyph) (x : Glyph) → front_words g (xs ++ x ∷ []) ≡ front_words g xs ++ cell_words (front_style g xs) x
unfolding front_words front_style
words-snoc g [] x = append-nil (cell_words g x)
words-snoc g (y ∷ ys) x =
    ap (λ l. cell_words g y ++ l) (words-snoc (style_behind g y) ys x)
    ∙ sym (append_assoc (cell_words g y) (front_words (style_behind g y) ys) (cell_words (front_style (style_behind g y) ys) x))

style-snoc : (g : Style) (xs : List Glyph) (x : Glyph) → front_style g (xs ++ x ∷ []) ≡ style_behind (front_style g xs) x
unfolding front_style
style-snoc g [] x = refl
style-snoc g (y ∷ ys) x = style-snoc (style_behind g y) ys x

row-words : (g : Style) (xs : List Glyph) → row_words g xs ≡ front_words g xs ++ styling default_style (front_style g xs)
unfolding front_words front_style
row-words g [] = refl
row-words g (x ∷ xs) =
    ap (λ l. cell_words g x ++ l) (row-words (style_behind g x) xs)
    ∙ sym (append_assoc (cell_words g x) (front_words (style_behind g x) xs) (styling default_style (front_style (style_behind g x) xs)))

-- ---- the first columns of one row differ

module _ (r n : ℕ) (at : Places) (first : is_right_half (at r 0) ≡ false) where
  d : ℕ → ℕ → Bool
  d i j = eqb i r && ltb j n

  d-here : (j : ℕ) → j < n → d r j ≡ true
  unfolding d
  d-here j h = ap (λ b. b && ltb j n) (eq-eqb r r refl) ∙ lt-ltb j n h

  drawn-here : (j : ℕ) → j < n → is_drawn d at r j ≡ not (is_right_half (at r j))
  drawn-here j h = ap (λ b. not (is_right_half (at r j)) && (b || (is_wide (at r j) && d r (j + 1)))) (d-here j h) ∙ and_true (not (is_right_half (at r j)))
    where
      and_true : (b : Bool) → (b && true) ≡ b
      and_true true = refl
      and_true false = refl

  style-here : (s : Style) (j : ℕ) → j < n → style_after d at r j s ≡ style_behind s (at r j)
  unfolding style_after
  style-here s j h = ap (λ b. if b then (at r j).style else s) (drawn-here j h) ∙ turned (is_right_half (at r j)) ((at r j).style) s
    where
      turned : (b : Bool) (x y : Style) → (if not b then x else y) ≡ (if b then y else x)
      turned true x y = refl
      turned false x y = refl

  style-is : (g : Style) (k : ℕ) → k ≤ n → style_in d at r g k ≡ front_style g (cells_to (at r) k)
  unfolding front_style
  style-is g zero h = refl
  style-is g (suc k) h =
      style-here (style_in d at r g k) k (omega (arith, h)) ∙ ap (λ s. style_behind s (at r k)) (style-is g k (omega (arith, h)))
      ∙ sym (style-snoc g (cells_to (at r) k) (at r k))

  -- the first cell begins at the cursor's place, and each behind it goes on there
  drawn-first : (g : Style) → 0 < n → drawn_cell d at r 0 g ≡ place_cursor (r + 1) 1 ∷ cell_words g (at r 0)
  unfolding drawn_cell
  drawn-first g h =
      let words = styling (at r 0).style g ++ map Print (at r 0).points in
      ap (λ b. if b then placing d r 0 ++ words else []) (drawn-here 0 h ∙ ap not first)
      ∙ sym (ap (λ b. place_cursor (r + 1) 1 ∷ (if b then [] else words)) first)

  drawn-next : (g : Style) (j : ℕ) → 0 < j → j < n → drawn_cell d at r j g ≡ cell_words g (at r j)
  unfolding drawn_cell
  drawn-next g j some h =
      let words = styling (at r j).style g ++ map Print (at r j).points in
      let on : goes_on d r j ≡ true =
      ap (λ b. b && (d r (j - 1) && d r j)) (lt-ltb 0 j some) ∙ ap (λ b. b && d r j) (d-here (j - 1) (omega (arith, h))) ∙ d-here j h in
      ap (λ b. if is_drawn d at r j then (if b then [] else place_cursor (r + 1) (j + 1) ∷ []) ++ words else []) on
      ∙ ap (λ b. if b then words else []) (drawn-here j h) ∙ turned (is_right_half (at r j)) words
    where
      turned : (b : Bool) (fs : List Function) → (if not b then fs else []) ≡ (if b then [] else fs)
      turned true fs = refl
      turned false fs = refl

  row-is : (g : Style) (k : ℕ) → k < n
      → drawn_row d at r g (suc k) ≡ place_cursor (r + 1) 1 ∷ front_words g (cells_to (at r) (suc k))
  unfolding front_words front_style
  row-is g zero h = drawn-first g h ∙ ap (λ l. place_cursor (r + 1) 1 ∷ l) (sym (append-nil (cell_words g (at r 0))))
  row-is g (suc k) h =
      ap (λ l. l ++ drawn_cell d at r (suc k) (style_in d at r g (suc k))) (row-is g k (omega (arith, h)))
      ∙ ap (λ l. (place_cursor (r + 1) 1 ∷ front_words g (cells_to (at r) (suc k))) ++ l)
      (drawn-next (style_in d at r g (suc k)) (suc k) (omega arith) h
      ∙ ap (λ s. cell_words s (at r (suc k))) (style-is g (suc k) (omega (arith, h))))
      ∙ ap (λ l. place_cursor (r + 1) 1 ∷ l) (sym (words-snoc g (cells_to (at r) (suc k)) (at r (suc k))))

-- ---- a terminal whose row awaits its text

no_half : (p : Screenshot) (h : IsScreenshot p) (r : ℕ) (b : Bool) → is_right_half (shown_at p r 0) ≡ b → b ≡ false
no_half p h r true e = let low = (half_shown p h r 0 e).0 in absurd (omega (arith, low))
no_half p h r false e = refl

module _ (t : Live) (p : Screenshot) (r n : ℕ) (h : IsScreenshot p) (a : Awaits t p r n) where
  still : Constants
  still = constants_of t

  at : Places
  at = shown_at p

  first : is_right_half (shown_at p r 0) ≡ false
  first = no_half p h r (is_right_half (shown_at p r 0)) refl

  t-is : t ≡ at_work (constants_of t) t.screen.cells r 0 false default_style false None
  t-is =
      at_rest t a.ground
      ∙ ap (λ x. at_work (constants_of t) t.screen.cells x t.screen.col t.screen.pending default_style t.modes.cursor_visible t.printed) a.row
      ∙ ap (λ x. at_work (constants_of t) t.screen.cells r x t.screen.pending default_style t.modes.cursor_visible t.printed) a.col
      ∙ ap (λ x. at_work (constants_of t) t.screen.cells r 0 x default_style t.modes.cursor_visible t.printed) a.settled
      ∙ ap (λ x. at_work (constants_of t) t.screen.cells r 0 false default_style x t.printed) a.hidden
      ∙ ap (λ x. at_work (constants_of t) t.screen.cells r 0 false default_style false x) a.forgets

  abbrev W : ℕ → Style → Live → Type 0
  W k g u = Walked (constants_of t) p.rows p.cols (d r n (shown_at p) first) (shown_at p) a.rows a.cols (wide_shown p h) (half_shown p h)
      (paintable_shown p h) r k g u

  not_differs : (i j : ℕ) → d r n (shown_at p) first i j ≡ false → i ≡ r → n ≤ j
  unfolding d
  not_differs i j e is = elim (cases_lt j n) [
    | inl low ↦ absurd (false≢true (sym e ∙ ap (λ b. b && ltb j n) (eq-eqb i r is) ∙ lt-ltb j n low))
    | inr high ↦ high
  ]

  begun : W 0 default_style t
  begun = record {
    cells = t.screen.cells;
    row = r;
    col = 0;
    pending = false;
    last = None;
    is = t-is;
    shown = record {
      above = λ i j q x y. a.before i j x y (λ e. absurd (omega (arith, q, e)));
      before = λ j q x. absurd (omega (arith, q));
      half = λ e q. absurd (false≢true (sym first ∙ e));
      rest = λ i j x y e. a.before i j x y (not_differs i j e);
    };
    stands = λ q x e y. absurd (omega (arith, q));
    middle = λ q e y. absurd (false≢true (sym first ∙ e));
  }

  -- placing the cursor at its own place changes nothing
  place-stays : changed_by (place_cursor (r + 1) 1) t ≡ t
  place-stays =
      let low = a.row_in in
      let rows = a.rows in
      let room = a.room in
      let back : r + 1 - 1 ≡ r = omega arith in
      ap (changed_by (place_cursor (r + 1) 1)) t-is
      ∙ goes (constants_of t) t.screen.cells r 0 false default_style false None (r + 1) 1 (omega arith) (omega (arith, low, rows)) (omega arith)
      (omega (arith, room))
      ∙ ap (λ x. at_work (constants_of t) t.screen.cells x 0 false default_style false None) back ∙ sym t-is

  differs-below : (i j : ℕ) → (i ≡ r → ⊥) → d r n (shown_at p) first i j ≡ false
  unfolding d
  differs-below i j ne = ap (λ b. b && ltb j n) (ne_eqb i r ne)

  differs-right : (i j : ℕ) → n ≤ j → d r n (shown_at p) first i j ≡ false
  unfolding d
  differs-right i j high = ap (λ b. eqb i r && b) (le-ltb j n high) ∙ and_none (eqb i r)
    where
      and_none : (b : Bool) → (b && false) ≡ false
      and_none true = refl
      and_none false = refl

  -- all is shown once the first n columns are
  module _ (g : Style) (u : Live) (w : W n g u) where
    all-places : (i j : ℕ) → i < t.screen.rows → j < t.screen.cols → cell_at t.screen.cols w.cells i j ≡ shown_at p i j
    all-places i j x y = elim (cases_eq i r) [
      | inr ne ↦ w.shown.rest i j x y (differs-below i j ne)
      | inl is ↦ elim (cases_lt j n) [
        | inl low ↦ ap (λ k. cell_at t.screen.cols w.cells k j) is ∙ w.shown.before j low y ∙ sym (ap (λ k. shown_at p k j) is)
        | inr high ↦ w.shown.rest i j x y (differs-right i j high)
      ]
    ]

    ended : (last : Option ℕ) (v : Live) → v ≡ at_work (constants_of t) w.cells r n false default_style false last → Shows t v p r
    ended last v is =
        let low = a.row_in in
        let rows = a.rows in
        let room = a.room in
        subst (λ (v : Live). Shows t v p r) (sym is)
        (record {
          ground = record {
            main = refl;
            row_in = omega (arith, low, rows);
            col_in = room;
            top = refl;
            bottom = refl;
            ascii = refl;
            locked = refl;
            single = refl;
            replaces = refl;
            origin = refl;
            reverse = refl;
            wraps = refl;
            pen = refl;
          };
          size = record { rows = refl; cols = refl };
          row = refl;
          places = all-places;
        })

    -- the default style is set if another one is
    styled : (same : Bool) (cells : List Glyph) (last : Option ℕ) → same_style default_style g ≡ same
        → u ≡ at_work (constants_of t) cells r n false g false last → (last' : Option ℕ)
        × (acted (if same then [] else restyle default_style) u ≡ at_work (constants_of t) cells r n false default_style false last')
    styled true cells last e is =
        (last, is ∙ ap (λ s. at_work (constants_of t) cells r n false s false last) (sym (style_same default_style g e)))
    styled false cells last e is =
        (None, ap (acted (restyle default_style)) is ∙ restyled (constants_of t) cells r n false false g default_style last tt tt)

    closes : u ≡ at_work (constants_of t) w.cells r n false g false w.last → Shows t (acted (styling default_style g) u) p r
    closes is =
        let e = styled (same_style default_style g) w.cells w.last refl is in
        ended e.0 (acted (styling default_style g) u) e.1

module _ (t : Live) (p : Screenshot) (r k : ℕ) (h : IsScreenshot p) (a : Awaits t p r (suc k)) where
  abbrev n : ℕ
  n = suc k

  abbrev no_half_first : is_right_half (shown_at p r 0) ≡ false
  no_half_first = first t p r (suc k) h a

  abbrev D : ℕ → ℕ → Bool
  D = d r (suc k) (shown_at p) (first t p r (suc k) h a)

  abbrev words : List Function
  words = front_words default_style (cells_to (shown_at p r) (suc k))

  abbrev g : Style
  g = style_in (d r (suc k) (shown_at p) (first t p r (suc k) h a)) (shown_at p) r default_style (suc k)

  drew : acted (drawn_row D (shown_at p) r default_style (suc k)) t ≡ acted words t
  drew =
      ap (λ fs. acted fs t) (row-is r (suc k) (shown_at p) (first t p r (suc k) h a) default_style k (omega arith))
      ∙ ap (acted words) (place-stays t p r (suc k) h a)

  walked : W t p r (suc k) h a (suc k) g (acted words t)
  walked =
      subst (W t p r (suc k) h a (suc k) g) drew
      (row (constants_of t) p.rows p.cols D (shown_at p) a.rows a.cols (wide_shown p h) (half_shown p h) (paintable_shown p h) r (suc k)
      default_style t a.row_in a.few (begun t p r (suc k) h a))

  stood : (walked.row ≡ r) × (walked.col ≡ suc k) × (walked.pending ≡ false)
  stood =
      let low : suc k - 1 < suc k = omega arith in
      walked.stands (omega arith) a.room (d-here r (suc k) (shown_at p) (first t p r (suc k) h a) (suc k - 1) low) a.whole

  words-are : acted words t ≡ at_work (constants_of t) walked.cells r (suc k) false g false walked.last
  words-are =
      walked.is
      ∙ ap (λ x. at_work (constants_of t) walked.cells x walked.col walked.pending g false walked.last) stood.0
      ∙ ap (λ x. at_work (constants_of t) walked.cells r x walked.pending g false walked.last) stood.1
      ∙ ap (λ x. at_work (constants_of t) walked.cells r (suc k) x g false walked.last) stood.2

  all-words : live_after t (row_words default_style (cells_to (shown_at p r) (suc k))) ≡ acted (styling default_style g) (acted words t)
  all-words =
      ap (live_after t) (row-words default_style (cells_to (shown_at p r) (suc k)))
      ∙ acted-append words (styling default_style (front_style default_style (cells_to (shown_at p r) (suc k)))) t
      ∙ ap (λ s. acted (styling default_style s) (acted words t))
      (sym (style-is r (suc k) (shown_at p) (first t p r (suc k) h a) default_style (suc k) (omega arith)))

  leads-on : Shows t (live_after t (row_words default_style (cells_to (shown_at p r) (suc k)))) p r
  leads-on =
      subst (λ (v : Live). Shows t v p r) (sym all-words) (closes t p r (suc k) h a g (acted words t) walked words-are)

pub row-text-leads : RowTextLeads
row-text-leads t p r zero h a = record {
  ground = a.ground;
  size = record { rows = refl; cols = refl };
  row = a.row;
  places = λ i j x y. a.before i j x y (λ e. omega arith);
}
row-text-leads t p r (suc k) h a = leads-on t p r k h a
