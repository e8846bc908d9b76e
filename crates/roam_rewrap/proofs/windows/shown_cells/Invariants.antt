use Rattle.std.proofs.Common.{◌≡◌, ◌++◌, drop}
use Rattle.std.specs.List.{flat_map}
use Rattle.roam_rewrap.specs.Windows.{padded}
use Rattle.roam_rewrap.proofs.windows.shown_cells.Given as goal

abbrev pub invariant-loop-row : goal.invariant-loop-row
invariant-loop-row l = l.cells.items ++ flat_map (padded l.cols) (drop l.row-index l.shown) ≡ flat_map (padded l.cols) l.shown
