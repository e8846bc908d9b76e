use Rattle.std.proofs.Common.{◌≡◌, ◌≤◌, ◌<◌, ℕ, true, drop, length, take}
use Rattle.roam_scrollback.specs.Rewraps.{begins_line, head_cells, rows_behind, rows_counted}
use Rattle.roam_scrollback.proofs.Counting.{held}
use Rattle.roam_scrollback.proofs.rewraps.first_back.Given as goal

abbrev pub invariant-loop-from : goal.invariant-loop-from
invariant-loop-from l = record {
  within : l.from ≤ length l.all;
  cells : l.cells ≡ held (head_cells (drop l.from l.all));
  filled : l.filled ≡ held (rows_behind l.cols (drop l.from l.all));
  latest : (later : ℕ) → l.from < later → later ≤ l.kept → begins_line (take later l.all) ≡ true → rows_counted l.cols (drop later l.all) < l.rows;
}

abbrev pub decreases-loop-from : goal.decreases-loop-from
decreases-loop-from l = l.from
