use Rattle.std.proofs.Common.{sym, subst, List, ◌∙◌}
use Rattle.roam_cells.specs.Glyph.{Glyph}
use Rattle.roam_cells.specs.Place.{IsWholeRow}
use Rattle.roam_rows.proofs.Inking.{run_is, run_whole}
use Rattle.roam_rows.proofs.writing.write_run.Goals as goal

pub returns-clause-after : goal.returns-clause-after
returns-clause-after c =
    let a = c.args in
    let q = c.requires in
    let p = c.part_twice.ensures.parted in
    run_is a.col a.pen a.bytes.now a.row.now c.part_twice.new.row c.lay.new.row q.printable q.whole p (c.lay.ensures.len ∙ p.len) q.some c.lay.ensures.inside c.lay.ensures.outside

pub returns-clause-whole : goal.returns-clause-whole
returns-clause-whole c =
    let a = c.args in
    subst (λ (xs : List Glyph). IsWholeRow xs) (sym (returns-clause-after c)) (run_whole a.col a.pen a.bytes.now a.row.now a.row.now a.row.now c.requires.printable c.requires.whole)
