use Rattle.std.proofs.Common.{rules}
use Rattle.roam_cells.proofs.cells.Cell.unguarded.Goals as goal

pub returns : goal.returns
returns c = search rules
