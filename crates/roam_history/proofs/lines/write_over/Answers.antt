use Rattle.std.proofs.Common.{◌∙◌, ap, arith}
use Rattle.roam_history.specs.Lines.{refitted_row}
use Rattle.roam_history.proofs.Refitting.{written_over, short_over}
use Rattle.roam_history.proofs.lines.write_over.Goals as goal

pub returns-then-line-row-clause-line : goal.returns-then-line-row-clause-line
returns-then-line-row-clause-line c =
    let covered = rw (← c.cover.ensures.len) at c.cover.ensures.each in
    written_over c.args.row.now c.cover.new.line c.mend_last.new.line c.mend_last.ensures.len covered c.mend_last.ensures.each
    ∙ ap (λ n. refitted_row n c.args.row.now) c.cover.ensures.len

pub returns-else-line-row-clause-line : goal.returns-else-line-row-clause-line
returns-else-line-row-clause-line c =
    let covered = rw (← c.cover.ensures.len) at c.cover.ensures.each in
    short_over c.args.row.now c.cover.new.line (omega (arith, c.if-line-row.false)) covered
    ∙ ap (λ n. refitted_row n c.args.row.now) c.cover.ensures.len
