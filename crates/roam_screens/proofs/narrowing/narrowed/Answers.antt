use Rattle.std.proofs.Common.{◌∙◌, ◌&&◌, ◌||◌, not, ℕ, min, ap, sym, subst}
use Rattle.roam_screens.specs.Narrow.{narrow_row, is_row_out, is_col_out}
use Rattle.roam_screens.specs.Screenshot.{IsScreenshot}
use Rattle.roam_screens.proofs.Narrowed.{narrow_is, narrow_shown}
use Rattle.roam_screens.proofs.narrowing.narrowed.Goals as goal

pub of_lines-requires-clause-screen : goal.of_lines-requires-clause-screen
of_lines-requires-clause-screen g c =
    let s = g.S.Seen.screen c.args.shot.now in
    let rows = c.min-rows.ensures ∙ ap (λ (n : ℕ). min n 100) c.rows.ensures.rows in
    let cols = c.min-cols.ensures ∙ ap (λ (n : ℕ). min n 250) c.cols.ensures.cols in
    let at = c.narrow_cursor-visible.ensures in
    let row = at.row ∙ (λ i. narrow_row (c.rows-2.ensures.rows i) (c.cursor.ensures.row i)) in
    let col = at.col ∙ ap (λ (n : ℕ). min n 250) c.cursor.ensures.col in
    let visible = at.visible ∙ (λ i. c.visible.ensures.visible i && not (is_row_out (c.rows-2.ensures.rows i) (c.cursor.ensures.row i) || is_col_out (c.cursor.ensures.col i))) in
    let e = narrow_shown s c.min-rows.result c.min-cols.result c.in_ok-lines.lines.items c.narrow_cursor-visible.result.0.0 c.narrow_cursor-visible.result.0.1
    c.narrow_cursor-visible.result.1 rows cols c.in_ok-lines.ensures.cells row col visible in
    subst IsScreenshot (sym e) (narrow_is s c.facts.ensures.screenshot).screenshot

pub returns-clause-narrow : goal.returns-clause-narrow
returns-clause-narrow g c =
    let s = g.S.Seen.screen c.args.shot.now in
    let rows = c.min-rows.ensures ∙ ap (λ (n : ℕ). min n 100) c.rows.ensures.rows in
    let cols = c.min-cols.ensures ∙ ap (λ (n : ℕ). min n 250) c.cols.ensures.cols in
    let at = c.narrow_cursor-visible.ensures in
    let row = at.row ∙ (λ i. narrow_row (c.rows-2.ensures.rows i) (c.cursor.ensures.row i)) in
    let col = at.col ∙ ap (λ (n : ℕ). min n 250) c.cursor.ensures.col in
    let visible = at.visible ∙ (λ i. c.visible.ensures.visible i && not (is_row_out (c.rows-2.ensures.rows i) (c.cursor.ensures.row i) || is_col_out (c.cursor.ensures.col i))) in
    c.of_lines.ensures.screen
    ∙ narrow_shown s c.min-rows.result c.min-cols.result c.in_ok-lines.lines.items c.narrow_cursor-visible.result.0.0 c.narrow_cursor-visible.result.0.1
    c.narrow_cursor-visible.result.1 rows cols c.in_ok-lines.ensures.cells row col visible
