use Rattle.std.proofs.Common.{rules}
use Rattle.roam_grid.proofs.grids.Grid.ink.Goals as goal

pub returns-clause-marks : goal.returns-clause-marks
returns-clause-marks c = search rules
