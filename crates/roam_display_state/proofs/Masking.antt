-- Two paintings have one text if the same places differ and get the same content.
use Rattle.std.proofs.Common.{◌≡◌, ◌⊎◌, ℕ, zero, suc, ◌+◌, ◌-◌, Bool, true, false, eqb, List, [], ◌∷◌, ◌++◌, map, refl, sym, ap, ◌∙◌, subst, arith, inl, inr}
use Rattle.std.proofs.lemmas.Bool.{eq-eqb}
use Rattle.std.specs.List.{flat_map}
use Rattle.std.specs.Prelude.{◌&&◌, ◌||◌, ◌==◌, not, nat_lt, if◌then◌else◌}
use Rattle.roam_cells.specs.Glyph.{Glyph, is_right_half, is_wide, blank, default_style}
use Rattle.roam_cells.specs.Same.{same}
use Rattle.roam_cells.specs.declared.styles.Style.{Style}
use Rattle.roam_cells.proofs.CellLists.{is_wide-blank}
use Rattle.roam_cells.proofs.SameCells.{glyph_again}
use Rattle.roam_paint.specs.Painting.{Places, closing, differs, drawn_cell, drawn_row, drawn_rows, functions_between, goes_on, is_drawn, opening, painted_over, placing, same_size, style_after, style_at, style_in, styling, text_between}
use Rattle.roam_paint.specs.Sequences.{spelling_of}
use Rattle.roam_viewport.specs.Parts.{is_masked}
use Rattle.roam_viewport.specs.declared.parts.Part.{Part}
use Rattle.roam_screens.specs.Screenshot.{Screenshot, IsScreenshot}
use Rattle.roam_scroll_paint.specs.Leads.{Leads, PaintLeads}
use Rattle.roam_term.specs.ControlFunctions.{erase_all, hide_cursor, place_cursor, set_style, show_cursor}
use Rattle.roam_term.specs.Ground.{shown_at}
use Rattle.roam_text.specs.declared.functions.Function.{Function}
use Rattle.roam_text.specs.declared.functions.Function.TheVariants.{Print}
use Rattle.roam_display_state.specs.Masking.{IsBeside, MaskedCellsStay}

abbrev Marks : Type 0
Marks = ℕ → ℕ → Bool

-- the same places are drawn, with the same content, and the same ones continue a run
record Alike (d d' : Marks) (new new' : Places) : Type 0 where
  pub drawn : (r c : ℕ) → is_drawn d new r c ≡ is_drawn d' new' r c
  pub shown : (r c : ℕ) → is_drawn d new r c ≡ true → new r c ≡ new' r c
  pub marks : (r c : ℕ) → d r c ≡ d' r c

module _ (d d' : Marks) (new new' : Places) (h : Alike d d' new new') where
  goes_alike : (r c : ℕ) → goes_on d r c ≡ goes_on d' r c
  goes_alike r c = λ i. nat_lt 0 c && (h.marks r (c - 1) i && h.marks r c i)

  placed_alike : (r c : ℕ) → placing d r c ≡ placing d' r c
  placed_alike r c = ap (λ b. if b then [] else place_cursor (r + 1) (c + 1) ∷ []) (goes_alike r c)

  drawn_alike : (r c : ℕ) (g : Style) → drawn_cell d new r c g ≡ drawn_cell d' new' r c g
  unfolding drawn_cell
  drawn_alike r c g = by (is_drawn d new r c) refl
    where
      by : (b : Bool) → is_drawn d new r c ≡ b → drawn_cell d new r c g ≡ drawn_cell d' new' r c g
      by true is =
          let other : is_drawn d' new' r c ≡ true = sym (h.drawn r c) ∙ is in
          rw (is, other) (λ i. placed_alike r c i ++ (styling (h.shown r c is i).style g ++ map Print (h.shown r c is i).points))
      by false is =
          let other : is_drawn d' new' r c ≡ false = sym (h.drawn r c) ∙ is in
          rw (is, other) refl

  after_alike : (r c : ℕ) (g : Style) → style_after d new r c g ≡ style_after d' new' r c g
  unfolding style_after
  after_alike r c g = by (is_drawn d new r c) refl
    where
      by : (b : Bool) → is_drawn d new r c ≡ b → style_after d new r c g ≡ style_after d' new' r c g
      by true is =
          let other : is_drawn d' new' r c ≡ true = sym (h.drawn r c) ∙ is in
          rw (is, other) (ap (λ x. x.style) (h.shown r c is))
      by false is =
          let other : is_drawn d' new' r c ≡ false = sym (h.drawn r c) ∙ is in
          rw (is, other) refl

  in_alike : (r : ℕ) (g : Style) (c : ℕ) → style_in d new r g c ≡ style_in d' new' r g c
  in_alike r g zero = refl
  in_alike r g (suc c) = ap (style_after d new r c) (in_alike r g c) ∙ after_alike r c (style_in d' new' r g c)

  row_alike : (r : ℕ) (g : Style) (c : ℕ) → drawn_row d new r g c ≡ drawn_row d' new' r g c
  row_alike r g zero = refl
  row_alike r g (suc c) =
      let cell : drawn_cell d new r c (style_in d new r g c) ≡ drawn_cell d' new' r c (style_in d' new' r g c) =
      ap (drawn_cell d new r c) (in_alike r g c) ∙ drawn_alike r c (style_in d' new' r g c) in
      λ i. row_alike r g c i ++ cell i

  at_alike : (cols r : ℕ) → style_at d new cols r ≡ style_at d' new' cols r
  at_alike cols zero = refl
  at_alike cols (suc r) = ap (λ g. style_in d new r g cols) (at_alike cols r) ∙ in_alike r (style_at d' new' cols r) cols

  rows_alike : (cols r : ℕ) → drawn_rows d new cols r ≡ drawn_rows d' new' cols r
  rows_alike cols zero = refl
  rows_alike cols (suc r) =
      let row : drawn_row d new r (style_at d new cols r) cols ≡ drawn_row d' new' r (style_at d' new' cols r) cols =
      ap (λ g. drawn_row d new r g cols) (at_alike cols r) ∙ row_alike r (style_at d' new' cols r) cols in
      λ i. rows_alike cols r i ++ row i

-- ---- masked cells

same_number : (n : ℕ) → (n == n) ≡ true
same_number n = eq-eqb n n refl

or_false : (a b : Bool) → a ≡ false → b ≡ false → (a || b) ≡ false
or_false a b h k = rw (h, k) refl

module _ (masks : List Part) (before view there later : Screenshot) (rows : view.rows ≡ before.rows) (cols : view.cols ≡ before.cols)
    (bare : (r c : ℕ) → is_masked masks r c ≡ true → (shown_at before r c ≡ blank) × (shown_at view r c ≡ blank))
    (first : IsBeside masks before there) (last : IsBeside masks view later)
    (kept : (r c : ℕ) → is_masked masks r c ≡ true → shown_at there r c ≡ shown_at later r c)
    (inside : (r c : ℕ) → is_masked masks r c ≡ true → is_wide (shown_at later r c) ≡ true → is_masked masks r (c + 1) ≡ true) where
  one_size : same_size before view ≡ true
  one_size = rw (sym rows, sym cols, same_number view.rows, same_number view.cols) refl

  other_size : same_size there later ≡ true
  other_size =
      let r : there.rows ≡ later.rows = first.rows ∙ (sym rows ∙ sym last.rows) in
      let c : there.cols ≡ later.cols = first.cols ∙ (sym cols ∙ sym last.cols) in
      rw (r, c, same_number later.rows, same_number later.cols) refl

  differs_is : (r c : ℕ) → differs before view r c ≡ not (same (shown_at before r c) (shown_at view r c))
  differs_is r c = ap (λ b. not (same (if b then shown_at before r c else blank) (shown_at view r c))) one_size

  other_is : (r c : ℕ) → differs there later r c ≡ not (same (shown_at there r c) (shown_at later r c))
  other_is r c = ap (λ b. not (same (if b then shown_at there r c else blank) (shown_at later r c))) other_size

  still : (x y : Glyph) → x ≡ y → not (same x y) ≡ false
  still x y is = ap (λ z. not (same z y)) is ∙ ap not (glyph_again y)

  masked_still : (r c : ℕ) → is_masked masks r c ≡ true → differs before view r c ≡ false
  masked_still r c is =
      differs_is r c ∙ still (shown_at before r c) (shown_at view r c) ((bare r c is).0 ∙ sym (bare r c is).1)

  other_still : (r c : ℕ) → is_masked masks r c ≡ true → differs there later r c ≡ false
  other_still r c is = other_is r c ∙ still (shown_at there r c) (shown_at later r c) (kept r c is)

  marks_alike : (r c : ℕ) → differs before view r c ≡ differs there later r c
  marks_alike r c = by (is_masked masks r c) refl
    where
      by : (b : Bool) → is_masked masks r c ≡ b → differs before view r c ≡ differs there later r c
      by true is = masked_still r c is ∙ sym (other_still r c is)
      by false is =
          differs_is r c
          ∙ ((λ i. not (same (sym (first.places r c is) i) (sym (last.places r c is) i))) ∙ sym (other_is r c))

  none_drawn : (d : Marks) (new : Places) (r c : ℕ) → d r c ≡ false → (is_wide (new r c) && d r (c + 1)) ≡ false
      → is_drawn d new r c ≡ false
  none_drawn d new r c h k = rw (or_false (d r c) (is_wide (new r c) && d r (c + 1)) h k) (by (is_right_half (new r c)))
    where
      by : (b : Bool) → (not b && false) ≡ false
      by true = refl
      by false = refl

  wide_inside : (r c : ℕ) → is_masked masks r c ≡ true → (is_wide (shown_at later r c) && differs there later r (c + 1)) ≡ false
  wide_inside r c is = by (is_wide (shown_at later r c)) refl
    where
      by : (b : Bool) → is_wide (shown_at later r c) ≡ b → (is_wide (shown_at later r c) && differs there later r (c + 1)) ≡ false
      by true wide = rw (wide, other_still r (c + 1) (inside r c is wide)) refl
      by false wide = rw wide refl

  blank_inside : (r c : ℕ) → is_masked masks r c ≡ true → (is_wide (shown_at view r c) && differs before view r (c + 1)) ≡ false
  blank_inside r c is =
      ap (λ x. is_wide x && differs before view r (c + 1)) (bare r c is).1 ∙ ap (λ b. b && differs before view r (c + 1)) is_wide-blank

  alike : Alike (differs before view) (differs there later) (shown_at view) (shown_at later)
  alike = record { drawn = λ r c. drawn r c (is_masked masks r c) refl; shown = λ r c is. shown r c is (is_masked masks r c) refl; marks = marks_alike }
    where
      drawn : (r c : ℕ) (b : Bool) → is_masked masks r c ≡ b
          → is_drawn (differs before view) (shown_at view) r c ≡ is_drawn (differs there later) (shown_at later) r c
      drawn r c true is =
          none_drawn (differs before view) (shown_at view) r c (masked_still r c is) (blank_inside r c is)
          ∙ sym (none_drawn (differs there later) (shown_at later) r c (other_still r c is) (wide_inside r c is))
      drawn r c false is =
          let same_there = last.places r c is in
          λ i. not (is_right_half (sym same_there i))
          && (marks_alike r c i || (is_wide (sym same_there i) && marks_alike r (c + 1) i))

      shown : (r c : ℕ) → is_drawn (differs before view) (shown_at view) r c ≡ true → (b : Bool) → is_masked masks r c ≡ b
          → shown_at view r c ≡ shown_at later r c
      shown r c drawn_is true is =
          let none = none_drawn (differs before view) (shown_at view) r c (masked_still r c is) (blank_inside r c is) in
          let wrong : true ≡ false = sym drawn_is ∙ none in
          absurd cc
      shown r c drawn_is false is = sym (last.places r c is)

  text_alike : text_between before view ≡ text_between there later
  unfolding text_between functions_between
  text_alike =
      let middle : drawn_rows (differs before view) (shown_at view) view.cols view.rows
      ≡ drawn_rows (differs there later) (shown_at later) later.cols later.rows =
      rows_alike (differs before view) (differs there later) (shown_at view) (shown_at later) alike view.cols view.rows
      ∙ (λ i. drawn_rows (differs there later) (shown_at later) (sym last.cols i) (sym last.rows i)) in
      let start : opening before view ≡ opening there later =
      ap (λ b. hide_cursor
      ∷ (if b then [] else erase_all ∷ [])) (one_size ∙ sym other_size) in
      let end : closing view ≡ closing later =
      λ i. set_style default_style
      ∷ place_cursor (sym last.cursor_row i) (sym last.cursor_col i)
      ∷ (if sym last.visible i then show_cursor ∷ [] else []) in
      λ i. flat_map spelling_of (start i ++ (middle i ++ end i))

pub masked_cells_stay : PaintLeads → MaskedCellsStay
masked_cells_stay leads masks before view there later rows cols bare first last is kept inside =
    subst (Leads there later) (sym (text_alike masks before view there later rows cols bare first last kept inside)) (leads there later is)
