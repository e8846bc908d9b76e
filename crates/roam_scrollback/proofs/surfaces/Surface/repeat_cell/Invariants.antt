use Rattle.std.proofs.Common.{◌≡◌, ◌-◌, replicate}
use Rattle.roam_grid.specs.Writing.{put_all}
use Rattle.roam_term.specs.Terminal.{writing_under}
use Rattle.roam_scrollback.specs.Sources.{rows_by_puts, wraps_puts}
use Rattle.roam_scrollback.proofs.Repeats.{HasWritten}
use Rattle.roam_scrollback.proofs.surfaces.Surface.repeat_cell.Given as goal

abbrev pub invariant-loop : goal.invariant-loop
invariant-loop l =
    let now = l.self-inside in
    let old = l.initial.self-inside in
    let w = writing_under old.canvas.live.modes in
    record {
      live : now.canvas.live ≡ record old.canvas.live { screen = now.canvas.live.screen };
      screen : put_all (replicate (l.n - l.counter) l.cell) w now.canvas.live.screen ≡ put_all (replicate l.n l.cell) w old.canvas.live.screen;
      wraps : wraps_puts (replicate (l.n - l.counter) l.cell) w now.canvas.live.screen now.wraps
          ≡ wraps_puts (replicate l.n l.cell) w old.canvas.live.screen old.wraps;
      written : HasWritten l.initial.lines l.lines (rows_by_puts (replicate (l.n - l.counter) l.cell) w now.canvas.live.screen now.wraps)
          (rows_by_puts (replicate l.n l.cell) w old.canvas.live.screen old.wraps);
      cols : now.none.cols ≡ now.canvas.live.screen.cols;
    }
