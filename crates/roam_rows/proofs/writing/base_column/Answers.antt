use Rattle.std.proofs.Common.{◌≡◌, ◌∙◌, ◌-◌, true, sym, ap, arith, rules}
use Rattle.std.proofs.lemmas.List.{get_or_read}
use Rattle.roam_cells.specs.Glyph.{is_right_half, blank}
use Rattle.roam_cells.specs.Place.{glyph_at}
use Rattle.roam_rows.proofs.Mending.{wide_not_half}
use Rattle.roam_rows.proofs.writing.base_column.Goals as goal

pub returns-then-is_right_half-clause-no_half : goal.returns-then-is_right_half-clause-no_half
returns-then-is_right_half-clause-no_half c =
    let row = c.args.row.now in
    let col = c.args.col in
    let at : c.index-row-col.result ≡ glyph_at row col = get_or_read row col c.index-row-col.result c.requires.col_in c.index-row-col.is blank in
    let half : is_right_half (glyph_at row col) ≡ true = ap is_right_half (sym at) ∙ search rules in
    wide_not_half (glyph_at row (col - 1)) ((c.requires.whole col c.requires.col_in).half half).1

pub overflow_sub-result : goal.overflow_sub-result
overflow_sub-result c =
    let row = c.args.row.now in
    let col = c.args.col in
    let at : c.index-row-col.result ≡ glyph_at row col = get_or_read row col c.index-row-col.result c.requires.col_in c.index-row-col.is blank in
    let read : is_right_half c.index-row-col.result ≡ true = sym (c.is_right_half.ensures.half) ∙ c.if-is_right_half.true in
    let half : is_right_half (glyph_at row col) ≡ true = ap is_right_half (sym at) ∙ read in
    let past = ((c.requires.whole col c.requires.col_in).half half).0 in
    omega (arith, past)
