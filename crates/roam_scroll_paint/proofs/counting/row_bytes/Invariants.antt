use Rattle.std.proofs.Common.{◌≡◌, ◌≤◌, ◌&&◌, length}
use Rattle.roam_paint.specs.Painting.{differs, goes_on}
use Rattle.roam_paint.specs.Texts.{row_text, row_style}
use Rattle.roam_scroll_paint.proofs.counting.row_bytes.Given as goal

abbrev pub invariant-loop-col : goal.invariant-loop-col
invariant-loop-col g l =
    let old = g.O.Seen.screen l.old in
    let new = g.N.Seen.screen l.new in
    (l.bytes ≤ length (row_text old new l.row l.fn.style l.col))
    × (l.set ≡ row_style old new l.row l.fn.style l.col)
    × (l.at.here ≡ differs old new l.row l.col)
    × ((l.at.before && l.at.here) ≡ goes_on (differs old new) l.row l.col)
