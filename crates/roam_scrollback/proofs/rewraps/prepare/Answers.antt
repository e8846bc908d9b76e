use Rattle.std.proofs.Common.{Bool, ℕ, List, ◌≡◌, ◌+◌, ◌-◌, ◌++◌, drop, length, ap, length-append, subst, ◌∙◌, inl, inr, arith}
use Rattle.std.proofs.lemmas.Bool.{eq-eqb, ne_eqb}
use Rattle.roam_controls.specs.declared.modes.Modes.{Modes}
use Rattle.roam_grid.specs.Screen.{Screen}
use Rattle.roam_rewrap.specs.Lines.{TextRow}
use Rattle.roam_rewrap.specs.Windows.{reflowed}
use Rattle.roam_rewrap.specs.declared.places.ScreenPosition.{ScreenPosition}
use Rattle.roam_scrollback.specs.Rewraps.{FillsFrom, HasNoReflow, HasNoText, IsHeight, IsRewrapText, columns_before, screen_text}
use Rattle.roam_scrollback.proofs.Counting.{screen-text-long}
use Rattle.roam_scrollback.proofs.rewraps.prepare.Goals as goal
use Rattle.roam_term.specs.Terminal.{Live}

pub first_row-first-requires-clause-some : goal.first_row-first-requires-clause-some
first_row-first-requires-clause-some c =
    let screen = c.args.surface.now.live.screen in
    let wraps = c.args.surface.now.wraps in
    let height = c.height_of-height.result in
    let all = ap (λ (l : List TextRow). length l) (c.deref.ensures.value ∙ c.in_ok-all.ensures.rows) in
    let high = c.height_of-height.ensures.height.cursor in
    omega (arith, all, high, length-append c.args.kept.now (screen_text height screen wraps), screen-text-long height screen wraps, c.len-count.ensures.len)

pub returns-clause-prepared : goal.returns-clause-prepared
returns-clause-prepared c =
    let live = c.args.surface.now.live in
    let first = c.first_row-first.result in
    let back = c.len-count.result - first in
    let screen : c.grid-grid.result.now.screen ≡ live.screen =
    c.grid-grid.ensures.screen ∙ ap (λ (l : Live). l.screen) c.canvas-canvas.ensures.live in
    let all : c.deref-2.result.now ≡ c.args.kept.now ++ screen_text c.height_of-height.result live.screen c.args.surface.now.wraps =
    c.deref-2.ensures.value ∙ c.in_ok-all.ensures.rows in
    let row : back + (c.cursor-row.result.0 - 1) ≡ back + live.screen.row =
    omega (arith, c.cursor-row.ensures.row, ap (λ (s : Screen). s.row) screen) in
    let col : c.columns_before.result ≡ columns_before live.screen = c.columns_before.ensures.columns ∙ ap columns_before screen in
    let visible : c.modes-visible.result.cursor_visible ≡ live.modes.cursor_visible =
    ap (λ (m : Modes). m.cursor_visible) (c.modes-visible.ensures.modes ∙ ap (λ (l : Live). l.modes) c.canvas-canvas.ensures.live) in
    let reflow : c.in-Some.reflow ≡ reflowed (drop first c.deref-2.result.now)
    (record { row = back + (c.cursor-row.result.0 - 1); col = c.columns_before.result }) c.args.rows c.args.cols
    c.modes-visible.result.cursor_visible = rw c.in-Some.is at c.in_ok-reflow.ensures.reflowed in
    let text : IsRewrapText c.canvas-canvas.result.now.live c.in-Some.reflow c.in-Some-2.text.items =
    rw c.in-Some-2.is at c.in_ok-text.ensures.text in
    record {
      height = c.height_of-height.result;
      is_height = subst (λ s. IsHeight s c.height_of-height.result) screen c.height_of-height.ensures.height;
      counted = omega (arith, c.first_row-first.ensures.within, c.len-count.ensures.len);
      blank = λ less.
          let high = c.rows.ensures.rows ∙ ap (λ (s : Screen). s.rows) screen in
          let first_is = c.first_row-first.ensures.blank (ne_eqb c.height_of-height.result c.rows.result (λ e. absurd (omega (arith, less, e, high)))) in
          omega (arith, first_is);
      full = λ whole.
          let high = c.rows.ensures.rows ∙ ap (λ (s : Screen). s.rows) screen in
          let rows : c.from.result ≡ c.args.rows = omega arith in
          let cols : c.from-2.result ≡ c.args.cols = omega arith in
          subst (λ (k : ℕ). FillsFrom (c.args.kept.now ++ screen_text c.height_of-height.result live.screen c.args.surface.now.wraps) k c.args.rows c.args.cols first)
          c.len-count.ensures.len
          (subst (λ (k : ℕ). FillsFrom (c.args.kept.now ++ screen_text c.height_of-height.result live.screen c.args.surface.now.wraps) c.len-count.result k c.args.cols first) rows
          (subst (λ (k : ℕ). FillsFrom (c.args.kept.now ++ screen_text c.height_of-height.result live.screen c.args.surface.now.wraps) c.len-count.result c.from.result k first) cols
          (subst (λ (l : List TextRow). FillsFrom l c.len-count.result c.from.result c.from-2.result first) (c.deref.ensures.value ∙ c.in_ok-all.ensures.rows)
          (c.first_row-first.ensures.full (eq-eqb c.height_of-height.result c.rows.result (omega (arith, whole, high)))))));
      is = reflow ∙ (λ i. reflowed (drop first (all i)) (record { row = row i; col = col i }) c.args.rows c.args.cols (visible i));
      brings = subst (λ (l : Live). IsRewrapText l c.in-Some.reflow c.in-Some-2.text.items) c.canvas-canvas.ensures.live text;
    }

pub returns-in_default-clause-none : goal.returns-in_default-clause-none
returns-in_default-clause-none c =
    let live = c.args.surface.now.live in
    let first = c.first_row-first.result in
    let back = c.len-count.result - first in
    let screen : c.grid-grid.result.now.screen ≡ live.screen =
    c.grid-grid.ensures.screen ∙ ap (λ (l : Live). l.screen) c.canvas-canvas.ensures.live in
    let all : c.deref-2.result.now ≡ c.args.kept.now ++ screen_text c.height_of-height.result live.screen c.args.surface.now.wraps =
    c.deref-2.ensures.value ∙ c.in_ok-all.ensures.rows in
    let row : back + (c.cursor-row.result.0 - 1) ≡ back + live.screen.row =
    omega (arith, c.cursor-row.ensures.row, ap (λ (s : Screen). s.row) screen) in
    let col : c.columns_before.result ≡ columns_before live.screen = c.columns_before.ensures.columns ∙ ap columns_before screen in
    let visible : c.modes-visible.result.cursor_visible ≡ live.modes.cursor_visible =
    ap (λ (m : Modes). m.cursor_visible) (c.modes-visible.ensures.modes ∙ ap (λ (l : Live). l.modes) c.canvas-canvas.ensures.live) in
    let none : HasNoReflow (drop first c.deref-2.result.now)
    (record { row = back + (c.cursor-row.result.0 - 1); col = c.columns_before.result }) c.args.rows c.args.cols
    c.modes-visible.result.cursor_visible = rw c.in_default.is at c.in_ok-reflow.ensures.none in
    inr (record {
      height = c.height_of-height.result;
      is_height = subst (λ s. IsHeight s c.height_of-height.result) screen c.height_of-height.ensures.height;
      first = first;
      back = back;
      counted = omega (arith, c.first_row-first.ensures.within, c.len-count.ensures.len);
      blank = λ less.
          let high = c.rows.ensures.rows ∙ ap (λ (s : Screen). s.rows) screen in
          let first_is = c.first_row-first.ensures.blank (ne_eqb c.height_of-height.result c.rows.result (λ e. absurd (omega (arith, less, e, high)))) in
          omega (arith, first_is);
      full = λ whole.
          let high = c.rows.ensures.rows ∙ ap (λ (s : Screen). s.rows) screen in
          let rows : c.from.result ≡ c.args.rows = omega arith in
          let cols : c.from-2.result ≡ c.args.cols = omega arith in
          subst (λ (k : ℕ). FillsFrom (c.args.kept.now ++ screen_text c.height_of-height.result live.screen c.args.surface.now.wraps) k c.args.rows c.args.cols first)
          c.len-count.ensures.len
          (subst (λ (k : ℕ). FillsFrom (c.args.kept.now ++ screen_text c.height_of-height.result live.screen c.args.surface.now.wraps) c.len-count.result k c.args.cols first) rows
          (subst (λ (k : ℕ). FillsFrom (c.args.kept.now ++ screen_text c.height_of-height.result live.screen c.args.surface.now.wraps) c.len-count.result c.from.result k first) cols
          (subst (λ (l : List TextRow). FillsFrom l c.len-count.result c.from.result c.from-2.result first) (c.deref.ensures.value ∙ c.in_ok-all.ensures.rows)
          (c.first_row-first.ensures.full (eq-eqb c.height_of-height.result c.rows.result (omega (arith, whole, high)))))));
      none =
          subst (λ (v : Bool). HasNoReflow (drop first (c.args.kept.now ++ screen_text c.height_of-height.result live.screen c.args.surface.now.wraps))
          (record { row = back + live.screen.row; col = columns_before live.screen }) c.args.rows c.args.cols v) visible
          (subst (λ (p : ScreenPosition). HasNoReflow (drop first (c.args.kept.now ++ screen_text c.height_of-height.result live.screen c.args.surface.now.wraps)) p
          c.args.rows c.args.cols c.modes-visible.result.cursor_visible) (λ i. record { row = row i; col = col i })
          (subst (λ (l : List TextRow). HasNoReflow (drop first l)
          (record { row = back + (c.cursor-row.result.0 - 1); col = c.columns_before.result }) c.args.rows c.args.cols
          c.modes-visible.result.cursor_visible) all none));
    })

pub returns-in_default-2-clause-none : goal.returns-in_default-2-clause-none
returns-in_default-2-clause-none c =
    let none : HasNoText c.canvas-canvas.result.now.live = rw c.in_default-2.is at c.in_ok-text.ensures.none in
    inl (subst HasNoText c.canvas-canvas.ensures.live none)
