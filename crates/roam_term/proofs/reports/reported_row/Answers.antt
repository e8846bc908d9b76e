use Rattle.std.proofs.Common.{rules}
use Rattle.roam_term.proofs.reports.reported_row.Goals as goal

pub returns-then-not-origin-clause-row : goal.returns-then-not-origin-clause-row
returns-then-not-origin-clause-row c = search rules
