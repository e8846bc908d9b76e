use Rattle.roam_model.proofs.laws.clients_show_the_session.Goals as goal
use Rattle.roam_model.proofs.Runs.{holds-reached}
use Rattle.roam_model.proofs.Follows.{headline}

pub returns-clause-screens : goal.returns-clause-screens
returns-clause-screens c = λ session size es rs w reaches. (headline w (holds-reached session size es rs w reaches)).0

pub returns-clause-acts : goal.returns-clause-acts
returns-clause-acts c = λ session size es rs w reaches. (headline w (holds-reached session size es rs w reaches)).1
