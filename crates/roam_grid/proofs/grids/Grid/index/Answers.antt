use Rattle.std.proofs.Common.{rules}
use Rattle.roam_grid.specs.Cursor.{first_indexed, after_index}
use Rattle.roam_grid.specs.Marks.{marks_indexed}
use Rattle.roam_grid.proofs.grids.Grid.index.Goals as goal

pub returns-clause-screen : goal.returns-clause-screen
unfolding after_index first_indexed marks_indexed
returns-clause-screen c = search rules

pub returns-clause-first : goal.returns-clause-first
unfolding after_index first_indexed marks_indexed
returns-clause-first c = search rules

pub returns-clause-marks : goal.returns-clause-marks
unfolding after_index first_indexed marks_indexed
returns-clause-marks c = search rules
