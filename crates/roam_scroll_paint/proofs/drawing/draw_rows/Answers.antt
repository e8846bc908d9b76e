use Rattle.std.proofs.Common.{sym, ap, ◌∙◌, subst}
use Rattle.roam_term.specs.Ground.{shown_at}
use Rattle.roam_scroll_paint.specs.Bands.{taken, source_of, drawn_over}
use Rattle.roam_scroll_paint.specs.Rows.{AddsRows}
use Rattle.roam_scroll_paint.proofs.Adding.{adds_first, adds_more}
use Rattle.roam_scroll_paint.proofs.drawing.draw_rows.Goals as goal

pub loop-row-init : goal.loop-row-init
loop-row-init g c =
    let old = g.O.Seen.screen c.args.old.now in
    let new = g.N.Seen.screen c.args.new.now in
    let over = drawn_over old new c.args.band in
    let start = c.args.text.now.items in
    subst (λ s. AddsRows over (shown_at new) new.cols 0 s start start) (sym c.default-style.ensures) (adds_first over (shown_at new) new.cols start)

pub loop-row-preserved : goal.loop-row-preserved
loop-row-preserved g c =
    let old = g.O.Seen.screen c.args.old.now in
    let new = g.N.Seen.screen c.args.new.now in
    let over = drawn_over old new c.args.band in
    let r = c.loop-row.row in
    adds_more over (shown_at new) new.cols r c.loop-row.style c.in_ok-style.style c.args.text.now.items c.loop-row.text.items c.draw_changed_row.new.text.items
    c.loop-row.invariant
    (c.in_ok-style.ensures.row over (λ k.
    ap (λ b. taken (shown_at old) (source_of b c.args.band r) k) (sym c.is_same_size-same.ensures.same)
    ∙ ap (λ o. taken (shown_at old) o k) (sym c.source_of.ensures.source)
    ∙ c.row_over-over.ensures.cells k))
