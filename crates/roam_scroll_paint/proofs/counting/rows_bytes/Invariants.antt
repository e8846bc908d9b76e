use Rattle.std.proofs.Common.{◌≡◌, ◌≤◌, length}
use Rattle.roam_paint.specs.Texts.{rows_text, rows_style}
use Rattle.roam_scroll_paint.proofs.counting.rows_bytes.Given as goal

abbrev pub invariant-loop-row : goal.invariant-loop-row
invariant-loop-row g l =
    let old = g.O.Seen.screen l.old in
    let new = g.N.Seen.screen l.new in
    (l.bytes ≤ length (rows_text old new l.row)) × (l.style ≡ rows_style old new l.row)
