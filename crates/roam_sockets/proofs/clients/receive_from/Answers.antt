use Rattle.std.proofs.Common.{rules}
use Rattle.roam_sockets.proofs.Turning.{before_it, one_less}
use Rattle.roam_sockets.proofs.clients.receive_from.Goals as goal

pub returns-in-Some-clause-next : goal.returns-in-Some-clause-next
returns-in-Some-clause-next c = record {
  step = c.loop-step.step;
  within = search rules;
  is = search rules;
  before = before_it _ _ _ _ _ _ _ (search rules) c.receive_at.ensures.others c.loop-step.invariant.none;
}

pub loop-step-preserved : goal.loop-step-preserved
loop-step-preserved c = record {
  numbers = search rules;
  queues = search rules;
  count = search rules;
  none = one_less _ _ _ _ _ (c.receive_at.ensures.none (search rules)) c.receive_at.ensures.others c.loop-step.invariant.none;
}
