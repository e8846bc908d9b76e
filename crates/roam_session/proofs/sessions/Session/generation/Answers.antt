use Rattle.std.proofs.Common.{subst}
use Rattle.roam_session.specs.Stands.{IsSession}
use Rattle.roam_session.proofs.Living.{generation_is}
use Rattle.roam_session.proofs.sessions.Session.generation.Goals as goal

pub returns-clause-stands : goal.returns-clause-stands
returns-clause-stands c size log h = generation_is c.args.self.now c.args.pane size log (subst IsSession c.self.view_is c.self.invariant).ten h
