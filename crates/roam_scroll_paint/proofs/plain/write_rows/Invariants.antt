use Rattle.std.proofs.Common.{None}
use Rattle.roam_term.specs.Ground.{shown_at}
use Rattle.roam_scroll_paint.specs.Bands.{drawn_over}
use Rattle.roam_scroll_paint.specs.Rows.{AddsRows}
use Rattle.roam_scroll_paint.specs.Short.{AddsShortRows}
use Rattle.roam_scroll_paint.proofs.plain.write_rows.Given as goal

abbrev pub invariant-loop-row : goal.invariant-loop-row
invariant-loop-row g l =
    let old = g.O.Seen.screen l.old in
    let new = g.N.Seen.screen l.new in
    AddsRows (drawn_over old new None) (shown_at new) new.cols l.row l.style l.initial.text.items l.text.items
    × AddsShortRows old new l.row l.style l.initial.text.items l.text.items
