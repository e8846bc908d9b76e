use Rattle.std.proofs.Common.{◌≡◌, sym, ap, ◌∙◌, arith}
use Rattle.roam_paint.specs.Texts.{row_style}
use Rattle.roam_paint.proofs.Loops.{row_start, style_start, row_step, nothing, stays_first, stays_next}
use Rattle.roam_paint.proofs.painting.paint_row.Goals as goal

pub loop-col-init : goal.loop-col-init
loop-col-init g c =
    let old = (g.O.Seen.screen c.args.old.now) in
    let new = (g.N.Seen.screen c.args.new.now) in (
      nothing c.args.text.now.items _ (row_start old new c.args.row c.args.style),
      sym (style_start old new c.args.row c.args.style),
      c.differs.ensures.differs,
      stays_first c.differs.result old new c.args.row,
    )

pub loop-col-preserved : goal.loop-col-preserved
loop-col-preserved g c =
    let old = (g.O.Seen.screen c.args.old.now) in
    let new = (g.N.Seen.screen c.args.new.now) in
    let kept = c.loop-col.invariant in
    let step =
    row_step old new c.args.row c.args.style c.loop-col.col c.args.text.now.items c.loop-col.text.items c.paint_place.new.text.items
    c.loop-col.set c.in_ok-set.set kept.0 kept.1 c.in_ok-set.ensures.text c.in_ok-set.ensures.style in (
      step.0,
      step.1,
      c.differs-in-loop-col.ensures.differs,
      stays_next c.loop-col.at.here c.differs-in-loop-col.result old new c.args.row c.loop-col.col kept.2 c.differs-in-loop-col.ensures.differs,
    )

pub returns-clause-style : goal.returns-clause-style
returns-clause-style g c =
    let e : c.loop-col.col ≡ (g.N.Seen.screen c.args.new.now).cols = omega arith in
    c.loop-col.invariant.1 ∙ ap (row_style (g.O.Seen.screen c.args.old.now) (g.N.Seen.screen c.args.new.now) c.args.row c.args.style) e
