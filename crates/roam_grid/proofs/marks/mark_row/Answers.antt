use Rattle.roam_grid.proofs.Marked.{row_is_marked}
use Rattle.roam_grid.proofs.marks.mark_row.Goals as goal

pub returns : goal.returns
returns c = record { marks = row_is_marked c.args.marks.now c.args.row c.told-marks c.requires.row_in }
