use Rattle.roam_model.proofs.laws.datagrams_keep_their_rules.Goals as goal
use Rattle.roam_model.proofs.Runs.{holds-reached}
use Rattle.roam_model.proofs.Sendable.{counts-reached}
use Rattle.roam_model.proofs.Follows.{one_text, limits, replies_to_latest}

pub returns-clause-ids : goal.returns-clause-ids
returns-clause-ids c = λ session size es rs w reaches. one_text w (holds-reached session size es rs w reaches)

pub returns-clause-limits : goal.returns-clause-limits
returns-clause-limits c = λ session size es rs w reaches. limits w (holds-reached session size es rs w reaches)
    (counts-reached session size es rs w reaches)

pub returns-clause-address : goal.returns-clause-address
returns-clause-address c = λ session size es rs w reaches. replies_to_latest w (holds-reached session size es rs w reaches)
