use Rattle.roam_controls.proofs.Rows.{row_at}
use Rattle.roam_controls.proofs.renditions.digits_at.Goals as goal

pub returns : goal.returns
returns c = record { digits = (row_at c.args.param c.requires.below).digits }
