use Rattle.std.proofs.Common.{rules}
use Rattle.roam_term.proofs.leaving.leave_by_motion.Goals as goal

pub returns-after-top-eq0 : goal.returns-after-top-eq0
returns-after-top-eq0 c = search rules
