use Rattle.std.proofs.Common.{◌≤◌}
use Rattle.roam_term.specs.Leaving.{top_rows}
use Rattle.roam_scrollback.specs.Lines.{rows_with, Writes}
use Rattle.roam_scrollback.proofs.surfaces.push_top.Given as goal

abbrev pub invariant-loop-row : goal.invariant-loop-row
invariant-loop-row l = record {
  within : l.row ≤ l.n;
  written : Writes l.initial.lines l.lines (rows_with (top_rows l.row l.grid.screen) l.wraps);
}
