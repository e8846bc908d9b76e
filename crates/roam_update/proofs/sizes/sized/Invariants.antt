use Rattle.std.proofs.Common.{◌≡◌}
use Rattle.roam_cells.specs.Place.{table}
use Rattle.roam_update.specs.Sizes.{sized_at}
use Rattle.roam_update.proofs.sizes.sized.Given as goal

abbrev pub invariant-loop-row : goal.invariant-loop-row
invariant-loop-row g l = l.cells.items ≡ table l.row l.cols (sized_at l.cols (g.B.Seen.screen l.base))
