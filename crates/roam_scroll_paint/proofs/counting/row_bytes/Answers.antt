use Rattle.std.proofs.Common.{◌≡◌, sym, ap, ◌∙◌, arith}
use Rattle.roam_paint.specs.Texts.{row_style}
use Rattle.roam_paint.specs.Painting.{differs, style_after}
use Rattle.roam_term.specs.Ground.{shown_at}
use Rattle.roam_paint.proofs.Loops.{style_start, style_more, stays_first, stays_next}
use Rattle.roam_scroll_paint.proofs.Lengths.{row_longer}
use Rattle.roam_scroll_paint.proofs.counting.row_bytes.Goals as goal

pub loop-col-init : goal.loop-col-init
loop-col-init g c =
    let old = g.O.Seen.screen c.args.old.now in
    let new = g.N.Seen.screen c.args.new.now in
    (omega arith, sym (style_start old new c.args.row c.args.style), c.differs.ensures.differs, stays_first c.differs.result old new c.args.row)

pub loop-col-preserved : goal.loop-col-preserved
loop-col-preserved g c =
    let old = g.O.Seen.screen c.args.old.now in
    let new = g.N.Seen.screen c.args.new.now in
    let kept = c.loop-col.invariant in
    let k = c.loop-col.col in
    let more = row_longer old new c.args.row c.args.style k c.loop-col.bytes c.drawn_bytes-counted.result.bytes c.loop-col.set kept.0 kept.1 c.drawn_bytes-counted.ensures.bytes in (
      omega (arith, more),
      c.drawn_bytes-counted.ensures.style ∙ ap (style_after (differs old new) (shown_at new) c.args.row k) kept.1 ∙ sym (style_more old new c.args.row c.args.style k),
      c.differs-in-loop-col.ensures.differs,
      stays_next c.loop-col.at.here c.differs-in-loop-col.result old new c.args.row k kept.2 c.differs-in-loop-col.ensures.differs,
    )

pub returns-clause-style : goal.returns-clause-style
returns-clause-style g c =
    let e : c.loop-col.col ≡ (g.N.Seen.screen c.args.new.now).cols = omega arith in
    c.loop-col.invariant.1 ∙ ap (row_style (g.O.Seen.screen c.args.old.now) (g.N.Seen.screen c.args.new.now) c.args.row c.args.style) e
