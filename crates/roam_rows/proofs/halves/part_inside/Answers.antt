use Rattle.std.proofs.Common.{◌≡◌, ◌<◌, true, ◌-◌, sym, ap, ◌∙◌, arith}
use Rattle.std.proofs.lemmas.List.{get_or_read}
use Rattle.roam_cells.specs.Glyph.{is_right_half, blank}
use Rattle.roam_cells.specs.Place.{glyph_at}
use Rattle.roam_rows.specs.Halves.{cut_at}
use Rattle.roam_rows.proofs.Columns.{parted_whole}
use Rattle.roam_rows.proofs.Parting.{part_is, part_none}
use Rattle.roam_rows.proofs.halves.part_inside.Goals as goal
use Rattle.roam_rows.proofs.halves.part_inside.Goals.{Then-is_right_half}

pub returns-then-is_right_half-clause-parted : goal.returns-then-is_right_half-clause-parted
returns-then-is_right_half-clause-parted c =
    let s = c.args.row.now in
    let col = c.args.col in
    let right = c.index-row-col.result in
    let left = c.index-row-col-then-is_right_half.result in
    let half : is_right_half right ≡ true = sym (c.is_right_half.ensures.half) ∙ c.if-is_right_half.true in
    let right_is : right ≡ glyph_at s col = get_or_read s col right (omega arith) c.index-row-col.is blank in
    let some = ((c.requires.whole col (omega arith)).half (sym (ap is_right_half right_is) ∙ half)).0 in
    let left_is : left ≡ glyph_at s (col - 1) = get_or_read s (col - 1) left (omega arith) c.index-row-col-then-is_right_half.is blank in
    rw (c.space_in.ensures.cell, c.space_in-then-is_right_half.ensures.cell) (part_is col s right left some (omega arith) c.requires.whole half right_is left_is)

pub returns-then-is_right_half-clause-whole : goal.returns-then-is_right_half-clause-whole
returns-then-is_right_half-clause-whole c = parted_whole (cut_at c.args.col) c.args.row.now _ c.requires.whole (returns-then-is_right_half-clause-parted c)

pub returns-else-is_right_half-clause-parted : goal.returns-else-is_right_half-clause-parted
returns-else-is_right_half-clause-parted c =
    part_none c.args.col c.args.row.now c.requires.whole
    (λ p q. ap is_right_half (sym (get_or_read c.args.row.now c.args.col c.index-row-col.result q c.index-row-col.is blank)) ∙ sym (c.is_right_half.ensures.half) ∙ c.if-is_right_half.false)

past : (c : Then-is_right_half) → 0 < c.args.col
past c =
    let s = c.args.row.now in
    let col = c.args.col in
    let right = c.index-row-col.result in
    let half : is_right_half right ≡ true = sym (c.is_right_half.ensures.half) ∙ c.if-is_right_half.true in
    let right_is : right ≡ glyph_at s col = get_or_read s col right (omega arith) c.index-row-col.is blank in
    ((c.requires.whole col (omega arith)).half (sym (ap is_right_half right_is) ∙ half)).0

pub overflow_sub-left : goal.overflow_sub-left
overflow_sub-left c = omega (arith, past c)

pub overflow_sub-row : goal.overflow_sub-row
overflow_sub-row c = omega (arith, past (goal.at.overflow_sub-row c).Then-is_right_half)
