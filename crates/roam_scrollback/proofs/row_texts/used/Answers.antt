use Rattle.std.proofs.Common.{◌-◌, ap, sym, ◌∙◌, arith}
use Rattle.std.proofs.lemmas.List.{get_or_read}
use Rattle.roam_cells.specs.Glyph.{blank}
use Rattle.roam_cells.specs.Same.{same}
use Rattle.roam_scrollback.proofs.RowTexts.{used-fewer, used-here}
use Rattle.roam_scrollback.proofs.row_texts.used.Goals as goal

pub loop-count-preserved : goal.loop-count-preserved
loop-count-preserved c =
    let n = c.loop-count.count in
    let row = c.args.row.now in
    let some = c.loop-count-test.true in
    let low = c.loop-count.invariant.within in
    let x = get_or_read row (n - 1) c.index-row-count.result (omega (arith, some, low)) c.index-row-count.is blank in
    record {
      within = omega (arith, low);
      used =
          used-fewer row (n - 1) n (omega (arith, some)) (omega (arith, some, low))
          (sym (c.is_blank.ensures.blank ∙ ap (λ y. same y blank) x) ∙ c.if-is_blank.true)
          ∙ c.loop-count.invariant.used;
    }

pub returns-else-is_blank-clause-used : goal.returns-else-is_blank-clause-used
returns-else-is_blank-clause-used c =
    let n = c.loop-count.count in
    let row = c.args.row.now in
    let some = c.loop-count-test.true in
    let low = c.loop-count.invariant.within in
    let x = get_or_read row (n - 1) c.index-row-count.result (omega (arith, some, low)) c.index-row-count.is blank in
    sym (used-here row (n - 1) n (omega (arith, some)) (omega (arith, some, low))
    (sym (c.is_blank.ensures.blank ∙ ap (λ y. same y blank) x) ∙ c.if-is_blank.false))
    ∙ c.loop-count.invariant.used
