use Rattle.std.proofs.Common.{◌++◌, ◌∙◌, ap}
use Rattle.roam_simulation.specs.Events.{reply_of}
use Rattle.roam_world_run.specs.Replies.{reply_line}
use Rattle.roam_world_run.proofs.play.happen.Goals as goal

pub returns-clause-answered : goal.returns-clause-answered
returns-clause-answered c = λ session size es rs s.
    (reply_of c.step-reply.result, c.in_ok-push_reply.ensures.text ∙ ap (λ t. t ++ reply_line (reply_of c.step-reply.result)) c.new-text.ensures.bytes, c.step-reply.ensures.stands session size es rs s)
