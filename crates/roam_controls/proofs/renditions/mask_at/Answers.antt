use Rattle.roam_controls.proofs.Rows.{row_at}
use Rattle.roam_controls.proofs.renditions.mask_at.Goals as goal

pub returns : goal.returns
returns c = record { mask = (row_at c.args.param c.requires.below).mask }
