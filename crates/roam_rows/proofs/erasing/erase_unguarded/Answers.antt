use Rattle.std.proofs.Common.{◌≡◌, ◌∙◌, ◌<◌, ◌≤◌, List, cond, ap, sym, subst, arith, refl, length, set}
use Rattle.std.proofs.lemmas.List.{get_or_default}
use Rattle.roam_cells.specs.Glyph.{Glyph, blank}
use Rattle.roam_cells.specs.Place.{IsWholeRow}
use Rattle.roam_rows.proofs.Parting.{part_open}
use Rattle.roam_rows.proofs.Guards.{erased_next, unguarded_is, unguarded_whole}
use Rattle.roam_rows.proofs.erasing.erase_unguarded.Goals as goal
use Rattle.roam_rows.proofs.erasing.erase_unguarded.Goals.{then-not-guard, else-not-guard}

pub loop-c-init : goal.loop-c-init
loop-c-init c = record { high = omega (arith, c.requires.range); len = refl; inside = λ k p q. absurd (omega arith); outside = λ k h. refl }

pub loop-c-preserved : goal.loop-c-preserved
loop-c-preserved c =
    let i = c.loop-c.invariant in
    let j = c.loop-c.c in
    let row = c.loop-c.row in
    let P = c.part_unguarded-2.new.row in
    let next = c.if-not-guard.row in
    let parted = part_open c.args.from c.args.to c.args.row.now c.part_unguarded.new.row P c.part_unguarded.ensures.parted c.part_unguarded-2.ensures.parted in
    let j_in : j < length row = omega (arith, c.loop-c-test.true, c.min-c-end.ensures, c.requires.range, i.len, parted.len) in
    let low : c.args.from ≤ j = omega (arith, c.loop-c.auto.c) in
    let g_is = c.guard.ensures.guard ∙ ap (λ (x : Glyph). x.guarded) (get_or_default row j c.index-row-c.result blank j_in) in
    let next_is : next ≡ cond c.guard.result row (set row j blank) = elim c.if-not-guard.branch [
      | then-not-guard w ↦ w.row-is ∙ ap (set row j) w.blank.ensures.cell ∙ sym (ap (λ b. cond b row (set row j blank)) w.if-not-guard.true)
      | else-not-guard w ↦ w.row-is ∙ sym (ap (λ b. cond b row (set row j blank)) w.if-not-guard.false)
    ] in
    let by = erased_next c.args.from j P row next c.guard.result j_in low g_is next_is i.inside i.outside in
    record { high = omega (arith, c.loop-c-test.true, c.min-c-end.ensures); len = c.if-not-guard.auto.row ∙ i.len; inside = by.0; outside = by.1 }

pub returns-clause-after : goal.returns-clause-after
returns-clause-after c =
    let a = c.args in
    let q = c.requires in
    let i = c.loop-c.invariant in
    let parted = part_open a.from a.to a.row.now c.part_unguarded.new.row c.part_unguarded-2.new.row c.part_unguarded.ensures.parted c.part_unguarded-2.ensures.parted in
    unguarded_is a.from a.to a.row.now q.whole q.range.0 c.part_unguarded-2.new.row c.loop-c.row a.len c.loop-c.c parted (i.len ∙ parted.len) q.rest i.high (omega (arith, c.loop-c-test.false, c.min-c-end.ensures))
    i.inside i.outside

pub returns-clause-whole : goal.returns-clause-whole
returns-clause-whole c =
    subst (λ (xs : List Glyph). IsWholeRow xs) (sym (returns-clause-after c)) (unguarded_whole c.args.from c.args.to c.args.row.now c.requires.whole c.requires.range.0)
