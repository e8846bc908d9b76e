use Rattle.roam_term.specs.Ground.{shown_at}
use Rattle.roam_scroll_paint.specs.Bands.{drawn_over}
use Rattle.roam_scroll_paint.specs.Rows.{AddsRows}
use Rattle.roam_scroll_paint.proofs.drawing.draw_rows.Given as goal

abbrev pub invariant-loop-row : goal.invariant-loop-row
invariant-loop-row g l =
    let new = g.N.Seen.screen l.new in
    AddsRows (drawn_over (g.O.Seen.screen l.old) new l.band) (shown_at new) new.cols l.row l.style l.initial.text.items l.text.items
