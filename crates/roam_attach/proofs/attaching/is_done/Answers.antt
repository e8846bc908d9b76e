use Rattle.std.proofs.Common.{refl}
use Rattle.roam_attach.proofs.attaching.is_done.Goals as goal

pub returns-in-None-clause-done : goal.returns-in-None-clause-done
returns-in-None-clause-done g c = λ yes. (c.in-None.ensures.none refl, c.is_settled.ensures.settled.0 yes)

pub returns-in-None-clause-pending : goal.returns-in-None-clause-pending
returns-in-None-clause-pending g c = λ no none acts. let yes = c.is_settled.ensures.settled.1 acts in cc
