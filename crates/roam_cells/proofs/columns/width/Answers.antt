use Rattle.std.proofs.Common.{rules}
use Rattle.roam_cells.proofs.columns.width.Goals as goal

pub returns-in-Some-clause-value : goal.returns-in-Some-clause-value
returns-in-Some-clause-value c = search rules

pub returns-in-Some-clause-bound : goal.returns-in-Some-clause-bound
returns-in-Some-clause-bound c = search rules
