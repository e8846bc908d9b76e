use Rattle.std.proofs.Common.{◌≡◌, ◌≤◌, ◌<◌, ℕ}
use Rattle.roam_cells.specs.Place.{row_of}
use Rattle.roam_scrollback.specs.RowText.{used}
use Rattle.roam_scrollback.proofs.rewraps.height_of.Given as goal

abbrev pub invariant-loop-height : goal.invariant-loop-height
invariant-loop-height l = record {
  cursor : l.row ≤ l.height;
  within : l.height ≤ l.grid.screen.rows;
  below : (r : ℕ) → l.height ≤ r → r < l.grid.screen.rows → used (row_of l.grid.screen.cols l.grid.screen.cells r) ≡ 0;
}

abbrev pub decreases-loop-height : goal.decreases-loop-height
decreases-loop-height l = l.height
