use Rattle.roam_session.proofs.Screening.{face_is}
use Rattle.roam_session.proofs.laws.faces_are_screens.Goals as goal

pub returns : goal.returns
returns c = record { screen = face_is }
