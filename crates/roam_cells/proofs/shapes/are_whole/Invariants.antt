use Rattle.std.proofs.Common.{ℕ, ◌<◌}
use Rattle.roam_cells.specs.Place.{cell_at, IsWholeAt, AreWhole}
use Rattle.roam_cells.proofs.shapes.are_whole.Given as goal

abbrev pub invariant-loop-row : goal.invariant-loop-row
invariant-loop-row l = AreWhole l.row l.cols l.cells

abbrev pub invariant-loop-col : goal.invariant-loop-col
invariant-loop-col l = (c : ℕ) → c < l.col → IsWholeAt l.cols (cell_at l.cols l.cells l.row) c
