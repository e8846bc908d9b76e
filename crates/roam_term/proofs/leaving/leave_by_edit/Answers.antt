use Rattle.std.proofs.Common.{rules}
use Rattle.roam_term.proofs.leaving.leave_by_edit.Goals as goal

pub returns-then-top-eq0 : goal.returns-then-top-eq0
returns-then-top-eq0 c = search rules
