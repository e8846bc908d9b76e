use Rattle.std.proofs.Common.{ℕ, List, ◌∷◌, [], ◌++◌, map, ap, ◌∙◌}
use Rattle.std.specs.List.{range_with_len}
use Rattle.roam_cells.specs.Glyph.{Glyph}
use Rattle.roam_viewport.specs.Parts.{part_at}
use Rattle.roam_viewport.proofs.Parting.{row_on}
use Rattle.roam_viewport.proofs.parts.View.cells.Goals as goal

pub loop-col-preserved : goal.loop-col-preserved
loop-col-preserved c =
    let f = part_at c.args.self.now.part c.args.self.now.masks.now c.args.self.now.shot.now c.args.row in
    c.in_ok-push.ensures.items
    ∙ ap (λ (t : List Glyph). t ++ c.cell-cell.result ∷ []) c.loop-col.invariant
    ∙ ap (λ (g : Glyph). map f (range_with_len 0 c.loop-col.col) ++ g ∷ []) c.cell-cell.ensures.cell
    ∙ row_on f c.loop-col.col
