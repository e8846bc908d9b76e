-- A band of rows goes up or down on a ground terminal.
use Rattle.std.proofs.Common.{◌≡◌, ◌≤◌, ◌<◌, ℕ, ◌+◌, ◌-◌, min, max, Bool, true, false, List, Option, None, refl, ap, ◌∙◌, arith}
use Rattle.std.specs.Prelude.{if◌then◌else◌, nat_lt, ◌==◌, ◌||◌}
use Rattle.std.proofs.lemmas.Bool.{lt-ltb, le-ltb, ne_eqb, eq-eqb}
use Rattle.roam_cells.specs.Glyph.{Glyph}
use Rattle.roam_cells.specs.declared.styles.Style.{Style}
use Rattle.roam_grid.specs.Cursor.{after_carriage_return, after_index, after_reverse_index, moved_to}
use Rattle.roam_grid.specs.Screen.{Screen}
use Rattle.roam_grid.specs.Scrolling.{scrolled_up, scrolled_down, with_margins}
use Rattle.roam_rows.specs.Places.{mapped_cells}
use Rattle.roam_rows.specs.Scrolling.{up, down}
use Rattle.roam_term.specs.Terminal.{Live, changed_by}
use Rattle.roam_term.proofs.Steps.{Constants, at_work, screen_at}
use Rattle.roam_scroll_paint.specs.Bands.{set_margins, reset_margins, to_row, line_feed, reverse_index}

module _ (k : Constants) where
  -- at work, with margins
  abbrev pub within : ℕ → ℕ → List Glyph → ℕ → ℕ → Style → Bool → Live
  within top bottom cells row col g visible =
      record (at_work k cells row col false g visible None) {
        screen = record (screen_at k cells row col false) { top = top; bottom = bottom };
      }

  module _ (cells : List Glyph) (row col : ℕ) (pending : Bool) (g : Style) (visible : Bool) (printed : Option ℕ) where
    -- DECSTBM
    pub sets_margins : (top bottom : ℕ) → top + 1 < bottom → bottom ≤ k.rows → 1 ≤ k.cols
        → changed_by (set_margins (top + 1) bottom) (at_work k cells row col pending g visible printed) ≡ within top (bottom - 1) cells 0 0 g visible
    unfolding changed_by moved_to with_margins
    sets_margins top bottom two inside some =
        let s = screen_at k cells row col pending in
        let L : Screen → Live = λ x. record (at_work k cells row col pending g visible None) { screen = x } in
        let S : ℕ → ℕ → Bool → Screen = λ t b c. if c then moved_to 0 0 (with_margins t b s) else s in
        let B : Bool → Bool → ℕ = λ x y. if (x || y) then k.rows - 1 else bottom - 1 in
        let T = max (top + 1) 1 - 1 in
        let bottom_is : B (bottom == 0) (nat_lt k.rows bottom) ≡ bottom - 1 =
        ap (λ x. B x (nat_lt k.rows bottom)) (ne_eqb bottom 0 (λ e. absurd (omega (arith, two, e)))) ∙ ap (B false) (le-ltb k.rows bottom inside) in
        let top_is : T ≡ top = omega arith in
        ap (λ b. L (S T b (nat_lt T b))) bottom_is
        ∙ ap (λ t. L (S t (bottom - 1) (nat_lt t (bottom - 1)))) top_is
        ∙ ap (λ c. L (S top (bottom - 1) c)) (lt-ltb top (bottom - 1) (omega (arith, two)))
        ∙ ap (λ r. within top (bottom - 1) cells r (min 0 (k.cols - 1)) g visible) (omega arith)
        ∙ ap (λ c. within top (bottom - 1) cells 0 c g visible) (omega arith)

  -- CUP
  pub goes_to_row : (top bottom r : ℕ) (cells : List Glyph) (row col : ℕ) (g : Style) (visible : Bool) → r < k.rows → 1 ≤ k.cols
      → changed_by (to_row (r + 1)) (within top bottom cells row col g visible) ≡ within top bottom cells r 0 g visible
  unfolding changed_by moved_to
  goes_to_row top bottom r cells row col g visible low some =
      ap (λ x. within top bottom cells x (min 0 (k.cols - 1)) g visible) (omega (arith, low))
      ∙ ap (λ c. within top bottom cells r c g visible) (omega arith)

  -- LF at the bottom margin
  pub feeds : (top bottom : ℕ) (cells : List Glyph) (g : Style) (visible : Bool)
      → changed_by line_feed (within top bottom cells bottom 0 g visible) ≡ within top bottom (mapped_cells k.rows k.cols cells (up top bottom 1)) bottom 0 g visible
  unfolding changed_by after_carriage_return after_index scrolled_up
  feeds top bottom cells g visible =
      let s = record (screen_at k cells bottom 0 false) { top = top; bottom = bottom } in
      let L : Screen → Live = λ x. record (at_work k cells bottom 0 false g visible None) { screen = x } in
      let S : Bool → Screen = λ b. if b then record (scrolled_up 1 s) { pending = false }
      else if (bottom + 1 == k.rows) then record s { pending = false } else record s { row = bottom + 1; pending = false } in
      ap (λ b. L (if k.modes.newline then after_carriage_return (S b) else S b)) (eq-eqb bottom bottom refl)
      ∙ elim k.modes.newline as (λ n. L (if n then after_carriage_return (S true) else S true) ≡ L (S true)) [ true ↦ refl | false ↦ refl ]

  -- RI at the top margin
  pub indexes_back : (top bottom : ℕ) (cells : List Glyph) (g : Style) (visible : Bool)
      → changed_by reverse_index (within top bottom cells top 0 g visible) ≡ within top bottom (mapped_cells k.rows k.cols cells (down top bottom 1)) top 0 g visible
  unfolding changed_by after_reverse_index scrolled_down
  indexes_back top bottom cells g visible =
      let s = record (screen_at k cells top 0 false) { top = top; bottom = bottom } in
      let L : Screen → Live = λ x. record (at_work k cells top 0 false g visible None) { screen = x } in
      ap (λ b. L (if b then record (scrolled_down 1 s) { pending = false } else record s { row = top - 1; pending = false })) (eq-eqb top top refl)

  -- DECSTBM without parameters
  pub resets_margins : (top bottom : ℕ) (cells : List Glyph) (row col : ℕ) (g : Style) (visible : Bool) → 2 ≤ k.rows → 1 ≤ k.cols
      → changed_by reset_margins (within top bottom cells row col g visible) ≡ at_work k cells 0 0 false g visible None
  unfolding changed_by moved_to with_margins
  resets_margins top bottom cells row col g visible two some =
      let s = record (screen_at k cells row col false) { top = top; bottom = bottom } in
      let L : Screen → Live = λ x. record (at_work k cells row col false g visible None) { screen = x } in
      ap (λ c. L (if c then moved_to 0 0 (with_margins 0 (k.rows - 1) s) else s)) (lt-ltb 0 (k.rows - 1) (omega (arith, two)))
      ∙ ap (λ r. at_work k cells r (min 0 (k.cols - 1)) false g visible None) (omega arith)
      ∙ ap (λ c. at_work k cells 0 c false g visible None) (omega arith)
