use Rattle.std.proofs.Common.{sym, ◌∙◌}
use Rattle.roam_paint.proofs.Loops.{rows_start, rows_style_start, rows_step, nothing}
use Rattle.roam_paint.proofs.painting.paint_rows.Goals as goal

pub loop-row-init : goal.loop-row-init
loop-row-init g c =
    let old = (g.O.Seen.screen c.args.old.now) in
    let new = (g.N.Seen.screen c.args.new.now) in
    (nothing c.args.text.now.items _ (rows_start old new), c.default-style.ensures ∙ sym (rows_style_start old new))

pub loop-row-preserved : goal.loop-row-preserved
loop-row-preserved g c =
    rows_step (g.O.Seen.screen c.args.old.now) (g.N.Seen.screen c.args.new.now) c.loop-row.row c.args.text.now.items c.loop-row.text.items c.paint_changed_row.new.text.items
    c.loop-row.style c.in_ok-style.style c.loop-row.invariant.0 c.loop-row.invariant.1 c.in_ok-style.ensures.text c.in_ok-style.ensures.style
