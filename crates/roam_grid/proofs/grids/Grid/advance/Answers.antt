use Rattle.std.proofs.Common.{rules}
use Rattle.roam_grid.specs.Writing.{after_advance}
use Rattle.roam_grid.proofs.grids.Grid.advance.Goals as goal

pub returns-else-self-columns-clause-screen : goal.returns-else-self-columns-clause-screen
unfolding after_advance
returns-else-self-columns-clause-screen c = search rules
