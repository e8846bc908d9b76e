use Rattle.std.proofs.Common.{◌≡◌, ◌-◌, replicate}
use Rattle.roam_grid.specs.Marks.{marks_put_all}
use Rattle.roam_grid.specs.Screen.{IsSameSize}
use Rattle.roam_grid.specs.Writing.{put_all}
use Rattle.roam_term.specs.Leaving.{left_by_puts}
use Rattle.roam_term.specs.Terminal.{on_main, with_rows}
use Rattle.roam_term.proofs.printing.put_times.Given as goal

abbrev pub invariant-loop : goal.invariant-loop
invariant-loop l = record {
  screen : put_all (replicate (l.n - l.counter) l.cell) l.writing l.grid.screen ≡ put_all (replicate l.n l.cell) l.writing l.initial.grid.screen;
  marks : marks_put_all (replicate (l.n - l.counter) l.cell) l.writing l.grid.screen l.grid.marks
      ≡ marks_put_all (replicate l.n l.cell) l.writing l.initial.grid.screen l.initial.grid.marks;
  history : with_rows (on_main l.alternate (left_by_puts (replicate (l.n - l.counter) l.cell) l.writing l.grid.screen)) l.history
      ≡ with_rows (on_main l.alternate (left_by_puts (replicate l.n l.cell) l.writing l.initial.grid.screen)) l.initial.history;
  cols : l.history.cols ≡ l.grid.screen.cols;
  size : IsSameSize l.initial.grid.screen l.grid.screen;
}
