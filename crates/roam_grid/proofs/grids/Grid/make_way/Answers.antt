use Rattle.std.proofs.Common.{rules}
use Rattle.roam_grid.specs.Writing.{made_way}
use Rattle.roam_grid.proofs.grids.Grid.make_way.Goals as goal

pub returns-then-writing-clause-screen : goal.returns-then-writing-clause-screen
unfolding made_way
returns-then-writing-clause-screen c = search rules
