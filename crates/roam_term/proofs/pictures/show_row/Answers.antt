use Rattle.std.proofs.Common.{◌<◌, ◌++◌, ◌∷◌, [], length, map, take, get_or, append_assoc, ◌∙◌, ap, sym, arith}
use Rattle.std.proofs.lemmas.List.{map_more}
use Rattle.roam_term.specs.Picture.{shown_glyph}
use Rattle.roam_term.proofs.pictures.show_row.Goals as goal

pub loop-cell-preserved : goal.loop-cell-preserved
loop-cell-preserved c =
    let row = c.args.row.now in
    let before = c.args.cells.now.items in
    let i = c.loop-cell.cell-index in
    let show = shown_glyph c.args.reversed in
    let within : i < length row = omega arith in
    let front = map show (take i row) in
    c.in_ok-push.ensures.items
    ∙ ap (λ g. c.loop-cell.cells.items ++ g ∷ []) (c.shown_cell.ensures.cell ∙ ap show c.cell-item.is)
    ∙ ap (λ t. t ++ show (get_or row i c.cell-item.result) ∷ []) c.loop-cell.invariant
    ∙ append_assoc before front (show (get_or row i c.cell-item.result) ∷ [])
    ∙ ap (λ t. before ++ t) (sym (map_more show row i c.cell-item.result within))
