use Rattle.roam_model.proofs.laws.each_event_is_answered.Goals as goal
use Rattle.roam_model.proofs.Runs.{holds-reached}
use Rattle.roam_model.proofs.Answering.{one_reply}
use Rattle.roam_model.proofs.Replying.{has_reply}

pub returns-clause-reply : goal.returns-clause-reply
returns-clause-reply c = λ session size es rs w reaches. has_reply w (holds-reached session size es rs w reaches)

pub returns-clause-one : goal.returns-clause-one
returns-clause-one c = λ session size es rs w reaches. one_reply w
