use Rattle.std.proofs.Common.{length}
use Rattle.roam_overlay.proofs.overlay.+type_each.Given as goal

abbrev pub decreases-type_each : goal.decreases-type_each
decreases-type_each g l = length l.acts.now
