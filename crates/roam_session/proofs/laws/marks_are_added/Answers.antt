use Rattle.roam_session.proofs.Adding.{marks_are_added}
use Rattle.roam_session.proofs.laws.marks_are_added.Goals as goal

pub returns : goal.returns
returns c = record { added = marks_are_added }
