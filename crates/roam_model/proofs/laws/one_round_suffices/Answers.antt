use Rattle.roam_model.proofs.laws.one_round_suffices.Goals as goal
use Rattle.roam_model.proofs.Runs.{holds-reached}
use Rattle.roam_model.proofs.Follows.{offers_newest}
use Rattle.roam_model.proofs.OneRound.{one_round}

pub returns-clause-round : goal.returns-clause-round
returns-clause-round c = λ session size es rs w reaches. one_round w (holds-reached session size es rs w reaches)

pub returns-clause-newest : goal.returns-clause-newest
returns-clause-newest c = λ session size es rs w reaches. offers_newest w (holds-reached session size es rs w reaches)
