use Rattle.std.proofs.Common.{rules}
use Rattle.roam_controls.proofs.motions.later_motion.Goals as goal

pub returns-in-100 : goal.returns-in-100
returns-in-100 c = search rules
