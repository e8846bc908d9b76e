use Rattle.std.proofs.Common.{◌∙◌, ap, sym, max}
use Rattle.std.proofs.lemmas.Result.{IfOk-weaker}
use Rattle.roam_hub.specs.Servers.{ServerView}
use Rattle.roam_hub.proofs.Ticking.{ticks_sent, ticks_made}
use Rattle.roam_hub.proofs.servers.Server.tick.Goals as goal

pub returns-then-makes-clause-ticked : goal.returns-then-makes-clause-ticked
returns-then-makes-clause-ticked c s st =
    ticks_made c.args.self.now s c.args.now c.max-moment.result st
    (c.max-moment.ensures ∙ ap (λ (v : ServerView). max c.args.now v.clock) c.self.view_is)
    (sym c.makes.ensures.makes ∙ c.if-makes.true) c.number_face.result c.number_face.new.self
    (IfOk-weaker c.number_face.result _ _ (λ all h. h s st) c.number_face.ensures.made) (c.number_face.ensures.fault s st)
    c.number_face.ensures.memory c.number_face.ensures.err

pub returns-else-makes-clause-ticked : goal.returns-else-makes-clause-ticked
returns-else-makes-clause-ticked c s st =
    ticks_sent c.args.self.now s c.args.now c.max-moment.result st
    (c.max-moment.ensures ∙ ap (λ (v : ServerView). max c.args.now v.clock) c.self.view_is)
    (sym c.makes.ensures.makes ∙ c.if-makes.false) c.send_newest.result c.send_newest.new.self
    c.send_newest.ensures.sent c.send_newest.ensures.ticked c.send_newest.ensures.fit c.send_newest.ensures.fault c.send_newest.ensures.memory
    c.send_newest.ensures.err
