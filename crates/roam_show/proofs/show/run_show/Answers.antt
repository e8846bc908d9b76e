use Rattle.std.proofs.Common.{rules}
use Rattle.roam_show.proofs.show.run_show.Goals as goal

pub returns-then-is_err-clause-bad_size : goal.returns-then-is_err-clause-bad_size
returns-then-is_err-clause-bad_size g c = (λ e. absurd (search rules), λ no. absurd (no c.in_ok-text.ensures.size))

pub returns-in-Ok-clause-bad_size : goal.returns-in-Ok-clause-bad_size
returns-in-Ok-clause-bad_size g c = (λ e. absurd (search rules), λ no. absurd (no c.in_ok-text.ensures.size))

pub returns-clause-bad_size : goal.returns-clause-bad_size
returns-clause-bad_size g c = (λ e. absurd (search rules), λ no. absurd (no c.in_ok-text.ensures.size))
