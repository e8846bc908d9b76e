use Rattle.std.proofs.Common.{length}
use Rattle.roam_layout.proofs.pictures.+cursor_of.Given as goal

abbrev pub decreases-cursor_of : goal.decreases-cursor_of
decreases-cursor_of l = length l.shots.now
