use Rattle.std.proofs.Common.{length, arith}
use Rattle.roam_history.specs.Histories.{last}
use Rattle.roam_term.specs.Picture.{cells_in_view}
use Rattle.roam_term.proofs.Views.{view_size, view_whole}
use Rattle.roam_term.proofs.Showing.{framed, last_each, low_in_view, shown_size, shown_whole, shown_unguarded}
use Rattle.roam_term.proofs.pictures.draw.Goals as goal

pub overflow_cast-rows : goal.overflow_cast-rows
overflow_cast-rows c =
    let frame = framed c.grid-grid.result.now.screen c.args.canvas.now.live.screen c.grid-grid.ensures.screen c.facts.ensures.screen.frame in
    omega (arith, c.rows.ensures.rows, frame.size.most_rows)

pub overflow_cast-cols : goal.overflow_cast-cols
overflow_cast-cols c =
    let frame = framed c.grid-grid.result.now.screen c.args.canvas.now.live.screen c.grid-grid.ensures.screen c.facts.ensures.screen.frame in
    omega (arith, c.cols.ensures.cols, frame.size.most_columns)

pub shown_cells-requires : goal.shown_cells-requires
shown_cells-requires c =
    let low = low_in_view c.args.canvas.now.live.alternate c.args.view (length c.args.history.now.rows) in
    record { cols = c.requires.cols; within = rw c.rows_in_view-v.ensures.rows low }

pub new-requires : goal.new-requires
new-requires c =
    let l = c.args.canvas.now.live in
    let h = c.args.history.now in
    let v = c.rows_in_view-v.result in
    let s = c.grid-grid.result.now.screen in
    let is = c.facts.ensures.screen in
    let frame = framed s l.screen c.grid-grid.ensures.screen is.frame in
    let here = is.frame in
    let each_last = last_each h l.screen.cols v c.requires.cols c.facts-2.ensures.scrollback in
    let cells = cells_in_view v l h in
    let size = view_size l.screen.cols l.screen.rows (last v h.rows) l.screen.cells each_last is.size in
    record {
      size = rw (c.rows.ensures.rows, c.cols.ensures.cols) frame.size;
      count =
          rw (c.in_ok-cells.ensures.cells, c.rows.ensures.rows, c.cols.ensures.cols, c.grid-grid.ensures.screen)
          (shown_size v l h is c.facts-2.ensures.scrollback c.requires.cols);
      cursor =
          rw (c.cursor_at-visible.ensures.row, c.cursor_at-visible.ensures.col, c.rows.ensures.rows, c.cols.ensures.cols, c.grid-grid.ensures.screen)
          (record {
            row_from = omega (arith, here.size.least_rows);
            row_to = omega arith;
            col_from = omega arith;
            col_to = omega (arith, here.col_in);
          });
      whole =
          rw (c.in_ok-cells.ensures.cells, c.rows.ensures.rows, c.cols.ensures.cols, c.grid-grid.ensures.screen)
          (shown_whole l.modes.reverse_screen l.screen.rows l.screen.cols cells size
          (view_whole l.screen.cols l.screen.rows (last v h.rows) l.screen.cells each_last is.size is.whole));
      unguarded = rw c.in_ok-cells.ensures.cells (shown_unguarded l.modes.reverse_screen cells);
    }
