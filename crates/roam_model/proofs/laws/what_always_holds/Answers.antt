use Rattle.roam_model.proofs.laws.what_always_holds.Goals as goal
use Rattle.roam_model.proofs.Runs.{holds-reached}
use Rattle.roam_model.proofs.Follows.{all_of_it, starts_agree, records_fit}

pub returns-clause-all : goal.returns-clause-all
returns-clause-all c = λ session size es rs w reaches. all_of_it w (holds-reached session size es rs w reaches)

pub returns-clause-agree : goal.returns-clause-agree
returns-clause-agree c = λ session size es rs w reaches. starts_agree w (holds-reached session size es rs w reaches)

pub returns-clause-fit : goal.returns-clause-fit
returns-clause-fit c = λ session size es rs w reaches. records_fit w (holds-reached session size es rs w reaches)

pub returns-clause-counted : goal.returns-clause-counted
returns-clause-counted c = λ session size es rs w reaches id. ((holds-reached session size es rs w reaches).links id).count
