use Rattle.roam_paint.proofs.Opens as opening
use Rattle.roam_paint.proofs.laws.opened_begins_blank.Goals as goal

pub returns : goal.returns
returns c = record { begins = opening.opened_begins_blank }
