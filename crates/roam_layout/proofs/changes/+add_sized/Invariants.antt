use Rattle.std.proofs.Common.{length}
use Rattle.roam_layout.proofs.changes.+add_sized.Given as goal

abbrev pub decreases-add_sized : goal.decreases-add_sized
decreases-add_sized l = length l.new.now
