use Rattle.roam_paint.proofs.Text as text
use Rattle.roam_session.proofs.Screening.{face_is}
use Rattle.roam_turns.proofs.Hopping.{hops}
use Rattle.roam_turns.proofs.laws.one_hop.Goals as goal

pub returns : goal.returns
returns c = record { hop = λ s id now x view h. hops face_is text.painted_leads_over s id now x view h }
