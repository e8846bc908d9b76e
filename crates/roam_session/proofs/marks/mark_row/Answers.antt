use Rattle.std.proofs.Common.{◌∙◌, true, set, ap}
use Rattle.roam_grid.proofs.Marked.{row_is_marked}
use Rattle.roam_session.proofs.marks.mark_row.Goals as goal

pub returns : goal.returns
returns c =
    let marks = c.args.marks.now in
    record { marks = ap (λ n. set marks n true) c.from.ensures ∙ row_is_marked marks c.args.row c.told-marks c.requires.row }
