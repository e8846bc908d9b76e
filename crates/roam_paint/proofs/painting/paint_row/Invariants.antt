use Rattle.std.proofs.Common.{◌≡◌, ◌++◌, ◌&&◌}
use Rattle.roam_paint.specs.Painting.{differs, goes_on}
use Rattle.roam_paint.specs.Texts.{row_text, row_style}
use Rattle.roam_paint.proofs.painting.paint_row.Given as goal

abbrev pub invariant-loop-col : goal.invariant-loop-col
invariant-loop-col g l =
    (l.text.items ≡ l.initial.text.items ++ row_text (g.O.Seen.screen l.old) (g.N.Seen.screen l.new) l.row l.fn.style l.col)
    × (l.set ≡ row_style (g.O.Seen.screen l.old) (g.N.Seen.screen l.new) l.row l.fn.style l.col)
    × (l.at.here ≡ differs (g.O.Seen.screen l.old) (g.N.Seen.screen l.new) l.row l.col)
    × ((l.at.before && l.at.here) ≡ goes_on (differs (g.O.Seen.screen l.old) (g.N.Seen.screen l.new)) l.row l.col)
