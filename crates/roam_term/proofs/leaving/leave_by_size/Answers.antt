use Rattle.std.proofs.Common.{rules}
use Rattle.roam_term.proofs.leaving.leave_by_size.Goals as goal

pub returns-else-not-alternate : goal.returns-else-not-alternate
returns-else-not-alternate c = search rules
