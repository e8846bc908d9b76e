use Rattle.std.proofs.Common.{length}
use Rattle.roam_layout.proofs.changes.+made.Given as goal

abbrev pub decreases-made : goal.decreases-made
decreases-made l = length l.new.now
