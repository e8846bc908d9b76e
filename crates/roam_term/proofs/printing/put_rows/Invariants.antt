use Rattle.std.proofs.Common.{◌≡◌, ◌-◌, ◌≤◌, length, drop}
use Rattle.roam_cells.specs.Glyph.{inked_bytes}
use Rattle.roam_grid.specs.Marks.{marks_put_all}
use Rattle.roam_grid.specs.Screen.{IsSameSize}
use Rattle.roam_grid.specs.Writing.{put_all}
use Rattle.roam_term.specs.Leaving.{left_by_puts}
use Rattle.roam_term.specs.Terminal.{on_main, with_rows}
use Rattle.roam_term.proofs.printing.put_rows.Given as goal

abbrev pub invariant-loop-at : goal.invariant-loop-at
invariant-loop-at l = record {
  within : l.at ≤ length l.bytes;
  screen : put_all (inked_bytes l.pen (drop l.at l.bytes)) l.writing l.grid.screen ≡ put_all (inked_bytes l.pen l.bytes) l.writing l.initial.grid.screen;
  marks : marks_put_all (inked_bytes l.pen (drop l.at l.bytes)) l.writing l.grid.screen l.grid.marks
      ≡ marks_put_all (inked_bytes l.pen l.bytes) l.writing l.initial.grid.screen l.initial.grid.marks;
  history : with_rows (on_main l.alternate (left_by_puts (inked_bytes l.pen (drop l.at l.bytes)) l.writing l.grid.screen)) l.history
      ≡ with_rows (on_main l.alternate (left_by_puts (inked_bytes l.pen l.bytes) l.writing l.initial.grid.screen)) l.initial.history;
  cols : l.history.cols ≡ l.grid.screen.cols;
  size : IsSameSize l.initial.grid.screen l.grid.screen;
}

abbrev pub decreases-loop-at : goal.decreases-loop-at
decreases-loop-at l = length l.bytes - l.at
