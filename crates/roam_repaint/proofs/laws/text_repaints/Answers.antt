use Rattle.roam_repaint.proofs.Reading as reading
use Rattle.roam_repaint.proofs.Whole as whole
use Rattle.roam_repaint.proofs.laws.text_repaints.Goals as goal

pub returns : goal.returns
returns c = record { repaints = whole.text_repaints; read = reading.text_is_read }
