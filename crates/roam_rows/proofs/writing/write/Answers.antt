use Rattle.std.proofs.Common.{◌≡◌, true, false, sym, ap, subst, List, ◌∙◌, set, ◌+◌}
use Rattle.roam_cells.specs.Glyph.{Glyph, is_wide, right_of}
use Rattle.roam_cells.specs.Place.{IsWholeRow}
use Rattle.roam_rows.proofs.Inking.{written_narrow, written_wide, written_whole}
use Rattle.roam_rows.proofs.writing.write.Goals as goal

pub returns-then-is_wide-clause-after : goal.returns-then-is_wide-clause-after
returns-then-is_wide-clause-after c =
    let a = c.args in
    let q = c.requires in
    let wide : is_wide a.cell ≡ true = sym (c.is_wide.ensures.wide) ∙ c.if-is_wide.true in
    let P = c.part_twice.new.row in
    let half : c.right.result ≡ right_of a.cell = c.right.ensures.cell in
    ap (set (set P a.col a.cell) (a.col + 1)) half
    ∙ written_wide a.col a.row.now P a.cell q.whole c.part_twice.ensures.parted (q.room wide) wide q.no_half

pub returns-else-is_wide-clause-after : goal.returns-else-is_wide-clause-after
returns-else-is_wide-clause-after c =
    let a = c.args in
    let q = c.requires in
    let p = c.part_twice-else-is_wide in
    let narrow : is_wide a.cell ≡ false = sym (c.is_wide.ensures.wide) ∙ c.if-is_wide.false in
    written_narrow a.col a.row.now p.new.row a.cell q.whole p.ensures.parted q.col_in narrow q.no_half

pub returns-then-is_wide-clause-whole : goal.returns-then-is_wide-clause-whole
returns-then-is_wide-clause-whole c =
    subst (λ (xs : List Glyph). IsWholeRow xs) (sym (returns-then-is_wide-clause-after c)) (written_whole c.args.col c.args.row.now c.args.cell c.requires.whole c.requires.no_half)

pub returns-else-is_wide-clause-whole : goal.returns-else-is_wide-clause-whole
returns-else-is_wide-clause-whole c =
    subst (λ (xs : List Glyph). IsWholeRow xs) (sym (returns-else-is_wide-clause-after c)) (written_whole c.args.col c.args.row.now c.args.cell c.requires.whole c.requires.no_half)
