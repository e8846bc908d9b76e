use Rattle.std.proofs.Common.{◌≡◌, ◌≤◌, ◌+◌, Bool, ℕ, min, length, if◌then◌else◌, arith}
use Rattle.roam_grid.specs.Screen.{Screen, IsFrame}
use Rattle.roam_history.specs.Histories.{Scrollback, IsScrollback}
use Rattle.roam_term.proofs.Showing.{framed, low_in_view}
use Rattle.roam_term.proofs.pictures.cursor_at.Goals as goal

-- a row on or below the screen fits
row_fits : (s : Screen) (h : Scrollback) (alternate : Bool) (view row v : ℕ) → IsFrame s → IsScrollback h → row ≡ s.row + 1
    → v ≡ (if alternate then 0 else min view (length h.rows)) → row + v ≤ 700
row_fits s h alternate view row v frame is e f =
    omega (arith, low_in_view alternate view (length h.rows), is.few, is.size.most_lines, frame.row_in, frame.size.most_rows)

pub overflow_cast-result : goal.overflow_cast-result
overflow_cast-result c =
    let frame = framed c.grid-grid.result.now.screen c.args.canvas.now.live.screen c.grid-grid.ensures.screen c.facts.ensures.screen.frame in
    omega (arith, c.min.ensures, c.rows-2.ensures.rows, frame.size.most_rows)

pub overflow_cast-result-2 : goal.overflow_cast-result-2
overflow_cast-result-2 c =
    let frame = framed c.grid-grid.result.now.screen c.args.canvas.now.live.screen c.grid-grid.ensures.screen c.facts.ensures.screen.frame in
    omega (arith, c.cursor-row.ensures.col, frame.col_in, frame.size.most_columns)

pub overflow_add-row : goal.overflow_add-row
overflow_add-row c =
    let frame = framed c.grid-grid.result.now.screen c.args.canvas.now.live.screen c.grid-grid.ensures.screen c.facts.ensures.screen.frame in
    let fits =
    row_fits c.grid-grid.result.now.screen c.args.history.now c.args.canvas.now.live.alternate c.args.view c.cursor-row.result.0
    c.rows_in_view-v.result frame c.facts-2.ensures.scrollback c.cursor-row.ensures.row c.rows_in_view-v.ensures.rows in
    omega (arith, fits)

pub overflow_add-visible : goal.overflow_add-visible
overflow_add-visible c =
    let frame = framed c.grid-grid.result.now.screen c.args.canvas.now.live.screen c.grid-grid.ensures.screen c.facts.ensures.screen.frame in
    let fits =
    row_fits c.grid-grid.result.now.screen c.args.history.now c.args.canvas.now.live.alternate c.args.view c.cursor-row.result.0
    c.rows_in_view-v.result frame c.facts-2.ensures.scrollback c.cursor-row.ensures.row c.rows_in_view-v.ensures.rows in
    omega (arith, fits)
