use Rattle.std.proofs.Common.{ap, ◌∙◌}
use Rattle.roam_session.specs.Refusals.{none_refused}
use Rattle.roam_session.specs.Stands.{SessionView, waiting_at}
use Rattle.roam_session.proofs.Entering.{waiting_is}
use Rattle.roam_session.proofs.sessions.Session.output.Goals as goal

pub returns-clause-fault : goal.returns-clause-fault
returns-clause-fault c size log h =
    let pane = c.args.pane in
    c.copy_output.ensures.fault
    ∙ ap none_refused
    (ap (λ ts. waiting_at ts pane) c.deref.ensures.value ∙ ap (λ (s : SessionView). waiting_at s.terms pane) c.self.view_is
    ∙ waiting_is c.args.self.now pane size log h)

pub returns-clause-stands : goal.returns-clause-stands
returns-clause-stands c size log h = waiting_is c.args.self.now c.args.pane size log h
