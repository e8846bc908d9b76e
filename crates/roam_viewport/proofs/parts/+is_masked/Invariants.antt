use Rattle.std.proofs.Common.{length}
use Rattle.roam_viewport.proofs.parts.+is_masked.Given as goal

abbrev pub decreases-is_masked : goal.decreases-is_masked
decreases-is_masked l = length l.masks.now
