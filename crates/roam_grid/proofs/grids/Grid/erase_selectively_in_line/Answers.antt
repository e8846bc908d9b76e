use Rattle.std.proofs.Common.{rules}
use Rattle.roam_grid.specs.Erasing.{erased_selectively_in_line}
use Rattle.roam_grid.proofs.grids.Grid.erase_selectively_in_line.Goals as goal

pub returns-clause-screen : goal.returns-clause-screen
unfolding erased_selectively_in_line
returns-clause-screen c = search rules
