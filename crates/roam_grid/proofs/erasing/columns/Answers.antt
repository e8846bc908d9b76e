use Rattle.std.proofs.Common.{rules}
use Rattle.roam_grid.proofs.erasing.columns.Goals as goal

pub returns-in-ToStart-clause-to : goal.returns-in-ToStart-clause-to
returns-in-ToStart-clause-to c = search rules
