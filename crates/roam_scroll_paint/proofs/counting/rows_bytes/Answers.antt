use Rattle.std.proofs.Common.{◌≤◌, length, sym, ap, ◌∙◌, arith}
use Rattle.roam_paint.specs.Texts.{row_text, row_style}
use Rattle.roam_paint.proofs.Loops.{rows_style_start, rows_style_more}
use Rattle.roam_scroll_paint.proofs.Lengths.{rows_longer, first_rows}
use Rattle.roam_scroll_paint.proofs.counting.rows_bytes.Goals as goal

pub loop-row-init : goal.loop-row-init
loop-row-init g c =
    (omega arith, c.default-style.ensures ∙ sym (rows_style_start (g.O.Seen.screen c.args.old.now) (g.N.Seen.screen c.args.new.now)))

pub loop-row-preserved : goal.loop-row-preserved
loop-row-preserved g c =
    let old = g.O.Seen.screen c.args.old.now in
    let new = g.N.Seen.screen c.args.new.now in
    let r = c.loop-row.row in
    let kept = c.loop-row.invariant in
    let counted = c.changed_row_bytes-counted.result in
    let style = c.loop-row.style in
    let fewer : counted.bytes ≤ length (row_text old new r style new.cols) =
    rw c.from.ensures at c.changed_row_bytes-counted.ensures.bytes in
    let more = rows_longer old new r c.loop-row.bytes counted.bytes style kept.0 kept.1 fewer in (
      omega (arith, more),
      c.changed_row_bytes-counted.ensures.style ∙ ap (λ n. row_style old new n style new.cols) c.from.ensures
          ∙ ap (λ s. row_style old new r s new.cols) kept.1 ∙ sym (rows_style_more old new r),
    )

pub returns-then-limit-bytes : goal.returns-then-limit-bytes
returns-then-limit-bytes g c =
    let new = g.N.Seen.screen c.args.new.now in
    record { least = first_rows (g.O.Seen.screen c.args.old.now) new c.loop-row.row new.rows c.loop-row.bytes (omega arith) c.loop-row.invariant.0 }
