use Rattle.std.proofs.Common.{◌≡◌, ◌++◌}
use Rattle.roam_paint.specs.Texts.{rows_text, rows_style}
use Rattle.roam_paint.proofs.painting.paint_rows.Given as goal

abbrev pub invariant-loop-row : goal.invariant-loop-row
invariant-loop-row g l =
    (l.text.items ≡ l.initial.text.items ++ rows_text (g.O.Seen.screen l.old) (g.N.Seen.screen l.new) l.row)
    × (l.style ≡ rows_style (g.O.Seen.screen l.old) (g.N.Seen.screen l.new) l.row)
