use Rattle.roam_model.proofs.laws.links_stay_true.Goals as goal
use Rattle.roam_model.proofs.Runs.{holds-reached}
use Rattle.roam_model.proofs.Follows.{hold_true, at_most_eight, no_gap}

pub returns-clause-pairs : goal.returns-clause-pairs
returns-clause-pairs c = λ session size es rs w reaches. hold_true w (holds-reached session size es rs w reaches)

pub returns-clause-eight : goal.returns-clause-eight
returns-clause-eight c = λ session size es rs w reaches. at_most_eight w (holds-reached session size es rs w reaches)

pub returns-clause-gap : goal.returns-clause-gap
returns-clause-gap c = λ session size es rs w reaches. no_gap w (holds-reached session size es rs w reaches)
