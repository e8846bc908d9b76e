use Rattle.std.proofs.Common.{rules}
use Rattle.roam_cells.proofs.limits.is_size.Goals as goal

pub returns-then-rows-lt-LEAST_ROWS : goal.returns-then-rows-lt-LEAST_ROWS
returns-then-rows-lt-LEAST_ROWS c = search rules
