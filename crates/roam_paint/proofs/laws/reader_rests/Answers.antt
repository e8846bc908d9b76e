use Rattle.roam_paint.proofs.Rests as rests
use Rattle.roam_paint.proofs.laws.reader_rests.Goals as goal

pub returns : goal.returns
returns c = record { rests = rests.reader_rests }
