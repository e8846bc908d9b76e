use Rattle.std.proofs.Common.{◌∙◌, ap, sym, arith}
use Rattle.std.proofs.lemmas.List.{get_or_default}
use Rattle.roam_cells.specs.Glyph.{Glyph, blank}
use Rattle.roam_rows.proofs.Parting.{part_guarded}
use Rattle.roam_rows.proofs.halves.part_unguarded.Goals as goal
use Rattle.roam_rows.proofs.halves.part_unguarded.Goals.{else-col-row-via-then-col-row+else-not-guard, else-col-row-via-else-col-row}

pub returns-else-col-row-clause-parted : goal.returns-else-col-row-clause-parted
returns-else-col-row-clause-parted c =
    let row = c.args.row.now in
    let col = c.args.col in
    part_guarded col row c.requires.whole (λ q.
    elim c.else-col-row.branch [
      | else-col-row-via-then-col-row+else-not-guard w ↦
          ap (λ (x : Glyph). x.guarded) (get_or_default row col blank w.index-row-col.result q) ∙ sym (w.guard.ensures.guard) ∙ w.if-not-guard.false
      | else-col-row-via-else-col-row w ↦ absurd (omega (arith, w.if-col-row.false, q))
    ])
