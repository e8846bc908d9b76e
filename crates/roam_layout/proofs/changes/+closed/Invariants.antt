use Rattle.std.proofs.Common.{length}
use Rattle.roam_layout.proofs.changes.+closed.Given as goal

abbrev pub decreases-closed : goal.decreases-closed
decreases-closed l = length l.old.now
