use Rattle.std.proofs.Common.{◌≡◌, refl, ap, ◌∙◌, arith}
use Rattle.roam_term.specs.Ground.{shown_at}
use Rattle.roam_paint.specs.Painting.{style_in}
use Rattle.roam_scroll_paint.specs.Rows.{is_marked, doubt_in}
use Rattle.roam_scroll_paint.proofs.Turns.{row_start, row_step}
use Rattle.roam_scroll_paint.proofs.rows.write_row.Goals as goal

pub loop-col-init : goal.loop-col-init
loop-col-init g c =
    let start = row_start (is_marked c.args.marks.now) (shown_at (g.N.Seen.screen c.args.new.now)) c.args.row c.args.style c.args.text.now.items in
    (start.0, refl, start.1)

pub loop-col-preserved : goal.loop-col-preserved
loop-col-preserved g c =
    row_step (is_marked c.args.marks.now) (shown_at (g.N.Seen.screen c.args.new.now)) c.args.row c.args.style c.loop-col.col
    c.args.text.now.items c.loop-col.text.items c.write_place.new.text.items c.loop-col.left.style c.in_ok-left.left.style
    c.loop-col.left.doubtful c.in_ok-left.left.doubtful
    c.loop-col.invariant.0 c.loop-col.invariant.1 c.loop-col.invariant.2 c.in_ok-left.ensures.text c.in_ok-left.ensures.style c.in_ok-left.ensures.doubt

pub returns-clause-style : goal.returns-clause-style
returns-clause-style g c =
    let e : c.loop-col.col ≡ c.args.end = omega arith in
    c.loop-col.invariant.1 ∙ ap (style_in (is_marked c.args.marks.now) (shown_at (g.N.Seen.screen c.args.new.now)) c.args.row c.args.style) e

pub returns-clause-doubt : goal.returns-clause-doubt
returns-clause-doubt g c =
    let e : c.loop-col.col ≡ c.args.end = omega arith in
    c.loop-col.invariant.2 ∙ ap (doubt_in (is_marked c.args.marks.now) (shown_at (g.N.Seen.screen c.args.new.now)) c.args.row) e
