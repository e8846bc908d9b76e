use Rattle.std.proofs.Common.{◌≡◌, ℕ, ◌<◌}
use Rattle.roam_cells.specs.Place.{row_of}
use Rattle.roam_outer_terminal.proofs.laying.are_same_rows.Given as goal

abbrev pub invariant-loop-row : goal.invariant-loop-row
invariant-loop-row l = (r : ℕ) → r < l.row → row_of l.one.cols l.one.cells r ≡ row_of l.one.cols l.other.cells r
