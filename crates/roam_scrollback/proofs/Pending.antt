-- The wrap that is pending behind a rewrap.
use Rattle.std.proofs.Common.{◌≡◌, ◌≤◌, ◌<◌, ℕ, ◌+◌, ◌-◌, ◌&&◌, Bool, true, false, cond, List, [], ◌∷◌, refl, sym, ap, subst, ◌∙◌, arith}
use Rattle.std.proofs.lemmas.Bool.{and_from, and_parts, cond-false, cond-true, false_from_ne_true, false≢true, le-ltb, leb-true}
use Rattle.roam_cells.specs.Glyph.{is_empty_text, is_right_half, is_wide, is_wide_text}
use Rattle.roam_cells.specs.Place.{IsWholeAt, cell_at}
use Rattle.roam_grid.specs.Writing.{columns}
use Rattle.roam_repaint.proofs.Texts.{there_is}
use Rattle.roam_repaint.specs.Repainted.{MayPend}
use Rattle.roam_repaint.specs.Repainting.{cell_there}
use Rattle.roam_rewrap.specs.Lines.{TextRow}
use Rattle.roam_rewrap.specs.Windows.{ReflowView, column_at, leaving_rows, place_of, position_at, reflowed}
use Rattle.roam_rewrap.specs.Wrapping.{rewrapped}
use Rattle.roam_rewrap.specs.declared.places.ScreenPosition.{ScreenPosition}
use Rattle.roam_screens.specs.Screenshot.{IsScreenshot, Screenshot}
use Rattle.roam_scrollback.specs.Rewraps.{IsPrepared, RewrapPends, columns_before, text_from}
use Rattle.roam_scrollback.specs.declared.wraps.Wrap.{Wrap}
use Rattle.roam_term.specs.Terminal.{Live}

-- a wide cell is no right half
wide-whole : (ps : List ℕ) → is_wide_text ps ≡ true → is_empty_text ps ≡ false
wide-whole [] h = absurd (false≢true h)
wide-whole (p ∷ ps) h = refl

before-one : (n : ℕ) → n + 1 - 1 ≡ n
before-one n = omega arith

-- a cursor behind all columns of its row is at a cell that ends in the last column
module _ (s : Screenshot) (row col : ℕ) (is : IsScreenshot s) (row-is : s.cursor_row ≡ row + 1)
    (col-is : s.cursor_col ≡ column_at s.cols s.cells row col + 1) (behind : s.cols ≤ col) where
  abbrev End : Type 0
  End = (is_right_half (cell_there s) ≡ false) × (s.cursor_col - 1 + columns (cell_there s) ≡ s.cols)

  at-end : column_at s.cols s.cells row col ≡ cond (is_right_half (cell_at s.cols s.cells row (s.cols - 1))) (s.cols - 2) (s.cols - 1)
  at-end = cond-false _ col (cond (is_right_half (cell_at s.cols s.cells row (s.cols - 1))) (s.cols - 2) (s.cols - 1)) (le-ltb col s.cols behind)

  row-in : row < s.rows
  row-in = let low = is.cursor.row_to in omega (arith, low, row-is)

  whole-at : IsWholeAt s.cols (cell_at s.cols s.cells row) (s.cols - 1)
  whole-at = let wide = is.size.least_columns in is.whole row row-in (s.cols - 1) (omega (arith, wide))

  from-col : (k : ℕ) → column_at s.cols s.cells row col ≡ k → s.cursor_col - 1 ≡ k
  from-col k e = ap (λ n. n - 1) (col-is ∙ ap (λ n. n + 1) e) ∙ before-one k

  there : (k : ℕ) → column_at s.cols s.cells row col ≡ k → cell_there s ≡ cell_at s.cols s.cells row k
  there k e =
      there_is s is ∙ ap (λ i. cell_at s.cols s.cells i (s.cursor_col - 1)) (ap (λ n. n - 1) row-is ∙ before-one row)
      ∙ ap (cell_at s.cols s.cells row) (from-col k e)

  ends-by : (b : Bool) → is_right_half (cell_at s.cols s.cells row (s.cols - 1)) ≡ b → End
  ends-by true half =
      let large = is.size.least_columns in
      let e = at-end ∙ cond-true _ (s.cols - 2) (s.cols - 1) half in
      let same : s.cols - 1 - 1 ≡ s.cols - 2 = omega arith in
      let wide : is_wide (cell_there s) ≡ true =
      ap is_wide (there (s.cols - 2) e ∙ ap (cell_at s.cols s.cells row) (sym same)) ∙ (whole-at.half half).1 in
      let sum : s.cols - 2 + 2 ≡ s.cols = omega (arith, large) in (
        wide-whole (cell_there s).points wide,
        ap (λ n. n + columns (cell_there s)) (from-col (s.cols - 2) e) ∙ ap (λ n. s.cols - 2 + n) (cond-true _ 2 1 wide) ∙ sum,
      )
  ends-by false whole =
      let large = is.size.least_columns in
      let e = at-end ∙ cond-false _ (s.cols - 2) (s.cols - 1) whole in
      let here = there (s.cols - 1) e in
      let narrow : is_wide (cell_there s) ≡ false =
      false_from_ne_true (is_wide (cell_there s)) (λ w.
      let far = (whole-at.wide (ap is_wide (sym here) ∙ w)).0 in
      absurd (omega (arith, far))) in
      let sum : s.cols - 1 + 1 ≡ s.cols = omega (arith, large) in (
        ap is_right_half here ∙ whole,
        ap (λ n. n + columns (cell_there s)) (from-col (s.cols - 1) e) ∙ ap (λ n. s.cols - 1 + n) (cond-false _ 2 1 narrow) ∙ sum,
      )

  ends : End
  ends = ends-by (is_right_half (cell_at s.cols s.cells row (s.cols - 1))) refl

both : (a b c : Bool) → (a ≡ true → b ≡ true) → (a ≡ true → c ≡ true) → (b ≡ true → c ≡ true → a ≡ true) → a ≡ (b && c)
both true b c p q r = sym (and_from b c (p refl) (q refl))
both false b c p q r = sym (false_from_ne_true (b && c) (λ h. let parts = and_parts b c h in false≢true (r parts.0 parts.1)))

module _ (l : Live) (wraps : List Wrap) (kept : List TextRow) (rows cols first back : ℕ) (reflow : ReflowView) (text : List ℕ)
    (p : IsPrepared l wraps kept rows cols first back reflow text) where
  abbrev place : ScreenPosition
  place = place_of (position_at (text_from first p.height kept l wraps)
      (record { row = back + l.screen.row; col = columns_before l.screen }))
      (rewrapped cols (text_from first p.height kept l wraps))

  abbrev shot : Screenshot
  shot = (reflowed (text_from first p.height kept l wraps)
      (record { row = back + l.screen.row; col = columns_before l.screen }) rows cols l.modes.cursor_visible).shot

  shot-same : p.brings.repaint.shot ≡ shot
  shot-same = p.brings.shot ∙ ap (λ (f : ReflowView). f.shot) p.is

  may : reflow.pending ≡ true → l.modes.autowrap ≡ true → MayPend p.brings.repaint
  may asks on =
      let behind : cols ≤ place.col = leb-true cols place.col (sym (ap (λ (f : ReflowView). f.pending) p.is) ∙ asks) in
      let end = ends shot (place.row - leaving_rows rows place.row (rewrapped cols (text_from first p.height kept l wraps))) place.col
      (subst IsScreenshot shot-same p.brings.painted) refl refl behind in
      record {
        wraps = p.brings.wraps ∙ on;
        whole = ap (λ (s : Screenshot). is_right_half (cell_there s)) shot-same ∙ end.0;
        last =
            ap (λ (s : Screenshot). s.cursor_col - 1 + columns (cell_there s)) shot-same ∙ end.1
            ∙ sym (ap (λ (s : Screenshot). s.cols) shot-same);
      }

  pends : p.brings.repaint.pending ≡ (reflow.pending && l.modes.autowrap)
  pends = both p.brings.repaint.pending reflow.pending l.modes.autowrap p.brings.asked
      (λ h. sym p.brings.wraps ∙ (p.brings.pends h).wraps)
      (λ asks on. p.brings.due asks (may asks on))

pub rewrap_pends : RewrapPends
rewrap_pends l wraps kept rows cols first back reflow text p = pends l wraps kept rows cols first back reflow text p
