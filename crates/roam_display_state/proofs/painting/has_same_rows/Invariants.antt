use Rattle.std.proofs.Common.{◌≡◌, ℕ, ◌<◌}
use Rattle.roam_cells.specs.Place.{row_of}
use Rattle.roam_display_state.proofs.painting.has_same_rows.Given as goal

abbrev pub invariant-loop-row : goal.invariant-loop-row
invariant-loop-row l = (k : ℕ) → k < l.row → row_of l.view.cols l.before.cells k ≡ row_of l.view.cols l.view.cells k
