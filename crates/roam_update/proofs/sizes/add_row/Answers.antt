use Rattle.std.proofs.Common.{◌++◌, ◌∷◌, [], ◌∙◌}
use Rattle.roam_update.specs.Sizes.{sized_at}
use Rattle.roam_update.proofs.Sizing.{row_more}
use Rattle.roam_update.proofs.sizes.add_row.Goals as goal

pub loop-col-preserved : goal.loop-col-preserved
loop-col-preserved g c =
    let f = sized_at c.args.cols (g.B.Seen.screen c.args.base.now) c.args.row in
    c.in_ok-push.ensures.items ∙ (λ i. c.loop-col.invariant i ++ (c.sized_at.ensures.cell i) ∷ []) ∙ row_more c.args.cells.now.items f c.loop-col.col
