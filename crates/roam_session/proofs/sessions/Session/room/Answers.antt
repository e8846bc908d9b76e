use Rattle.roam_session.proofs.Entering.{waiting_is}
use Rattle.roam_session.proofs.sessions.Session.room.Goals as goal

pub returns-clause-stands : goal.returns-clause-stands
returns-clause-stands c size log h = waiting_is c.args.self.now c.args.pane size log h
