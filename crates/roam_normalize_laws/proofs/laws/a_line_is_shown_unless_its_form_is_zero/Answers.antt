use Rattle.roam_normalize_laws.proofs.Line.{line-means}
use Rattle.roam_normalize_laws.proofs.laws.a_line_is_shown_unless_its_form_is_zero.Goals as goal

pub returns : goal.returns
returns c = record { underline = line-means }
