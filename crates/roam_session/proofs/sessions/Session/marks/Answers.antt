use Rattle.std.proofs.Common.{rules, subst}
use Rattle.roam_session.specs.Stands.{IsSession}
use Rattle.roam_session.proofs.FaceNow.{kept_rows}
use Rattle.roam_session.proofs.sessions.Session.marks.Goals as goal

pub returns-clause-marks : goal.returns-clause-marks
returns-clause-marks c = search rules

pub returns-clause-kept : goal.returns-clause-kept
returns-clause-kept c size log h =
    kept_rows c.args.self.now _ size log (subst IsSession c.self.view_is c.self.invariant) (returns-clause-marks c) h
