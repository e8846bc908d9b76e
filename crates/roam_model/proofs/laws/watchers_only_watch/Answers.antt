use Rattle.roam_model.proofs.laws.watchers_only_watch.Goals as goal
use Rattle.roam_model.proofs.Runs.{holds-reached}
use Rattle.roam_model.proofs.Follows.{watchers_take_no_part, watchers_disturb_nothing}

pub returns-clause-part : goal.returns-clause-part
returns-clause-part c = λ session size es rs w reaches. watchers_take_no_part w (holds-reached session size es rs w reaches)

pub returns-clause-rest : goal.returns-clause-rest
returns-clause-rest c = watchers_disturb_nothing
