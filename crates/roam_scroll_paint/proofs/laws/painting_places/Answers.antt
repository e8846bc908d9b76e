use Rattle.roam_scroll_paint.proofs.Placing as placing
use Rattle.roam_scroll_paint.proofs.laws.painting_places.Goals as goal

pub returns : goal.returns
returns c = record { placed = placing.painting_places }
