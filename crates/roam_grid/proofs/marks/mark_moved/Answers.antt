use Rattle.std.proofs.Common.{rules}
use Rattle.roam_grid.proofs.marks.mark_moved.Goals as goal

pub returns-then-n-ne0 : goal.returns-then-n-ne0
returns-then-n-ne0 c = search rules
