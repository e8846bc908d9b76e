use Rattle.roam_text.proofs.StringLogs.{size-follows, size-strings}
use Rattle.roam_text.proofs.laws.sizes_leave_strings.Goals as goal

pub returns-clause-follows : goal.returns-clause-follows
returns-clause-follows c reader log rows cols follows = size-follows reader log rows cols follows

pub returns-clause-strings : goal.returns-clause-strings
returns-clause-strings c reader log rows cols follows = size-strings reader log rows cols follows
