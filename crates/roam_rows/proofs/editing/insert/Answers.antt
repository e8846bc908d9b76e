use Rattle.std.proofs.Common.{◌∙◌, ◌-◌, List, length, max, refl, ap, arith, subst, sym}
use Rattle.roam_cells.specs.Glyph.{Glyph}
use Rattle.roam_cells.specs.Place.{IsWholeRow}
use Rattle.roam_rows.proofs.Shifts.{inserted_is, inserted_none, inserted_whole}
use Rattle.roam_rows.proofs.editing.insert.Goals as goal

pub returns-then-n-gt0-clause-after : goal.returns-then-n-gt0-clause-after
returns-then-n-gt0-clause-after c =
    let a = c.args in
    let q = c.requires in
    let m = c.min-n.result in
    let last = c.max-last.result in
    let P = c.part_twice.new.row in
    let M = c.copy_within.new.self in
    let f = c.blank_between.ensures in
    inserted_is a.col a.n m (length a.row.now - m) last a.len a.row.now P M c.blank_between.new.cells q.whole c.if-n-gt0.true c.min-n.ensures refl (c.max-last.ensures ∙ ap (λ k. max k a.col) c.min.ensures) q.rest c.part_twice.ensures.parted
    (f.len ∙ c.copy_within.ensures.len ∙ c.part_twice.ensures.parted.len) c.copy_within.ensures.by_index f.before f.inside f.after

pub returns-then-n-gt0-clause-whole : goal.returns-then-n-gt0-clause-whole
returns-then-n-gt0-clause-whole c =
    subst (λ (xs : List Glyph). IsWholeRow xs) (sym (returns-then-n-gt0-clause-after c)) (inserted_whole c.args.col c.args.n c.args.row.now c.requires.whole)

pub returns-else-n-gt0-clause-after : goal.returns-else-n-gt0-clause-after
returns-else-n-gt0-clause-after c = inserted_none c.args.col c.args.n c.args.row.now c.requires.whole (omega (arith, c.if-n-gt0.false, c.min-n.ensures, c.requires.col_in))
