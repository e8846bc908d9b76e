use Rattle.std.proofs.Common.{rules}
use Rattle.roam_grid.specs.Frames.{after_resizing}
use Rattle.roam_grid.specs.Marks.{all_on}
use Rattle.roam_grid.proofs.grids.Grid.adopt.Goals as goal

pub returns-clause-screen : goal.returns-clause-screen
unfolding after_resizing all_on
returns-clause-screen c = search rules
