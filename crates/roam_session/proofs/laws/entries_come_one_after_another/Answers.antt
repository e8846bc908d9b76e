use Rattle.roam_session.proofs.Logs.{session-append}
use Rattle.roam_session.proofs.laws.entries_come_one_after_another.Goals as goal

pub returns : goal.returns
returns c = record { step = λ size log entry. session-append size log entry }
