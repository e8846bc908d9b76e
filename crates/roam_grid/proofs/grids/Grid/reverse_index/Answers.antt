use Rattle.std.proofs.Common.{rules}
use Rattle.roam_grid.specs.Cursor.{first_reverse_indexed, after_reverse_index}
use Rattle.roam_grid.proofs.grids.Grid.reverse_index.Goals as goal

pub returns-clause-screen : goal.returns-clause-screen
unfolding after_reverse_index first_reverse_indexed
returns-clause-screen c = search rules

pub returns-clause-first : goal.returns-clause-first
unfolding after_reverse_index first_reverse_indexed
returns-clause-first c = search rules

pub returns-clause-marks : goal.returns-clause-marks
returns-clause-marks c = search rules
