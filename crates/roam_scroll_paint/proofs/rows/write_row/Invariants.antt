use Rattle.std.proofs.Common.{◌≡◌, ◌++◌}
use Rattle.std.specs.List.{flat_map}
use Rattle.roam_term.specs.Ground.{shown_at}
use Rattle.roam_paint.specs.Painting.{style_in}
use Rattle.roam_scroll_paint.specs.Rows.{is_marked, written_row, doubt_in}
use Rattle.roam_scroll_paint.specs.Sequences.{text_of}
use Rattle.roam_scroll_paint.proofs.rows.write_row.Given as goal

abbrev pub invariant-loop-col : goal.invariant-loop-col
invariant-loop-col g l =
    (l.text.items ≡ l.initial.text.items ++ flat_map text_of (written_row (is_marked l.marks) (shown_at (g.N.Seen.screen l.new)) l.row l.fn.style l.col))
    × (l.left.style ≡ style_in (is_marked l.marks) (shown_at (g.N.Seen.screen l.new)) l.row l.fn.style l.col)
    × (l.left.doubtful ≡ doubt_in (is_marked l.marks) (shown_at (g.N.Seen.screen l.new)) l.row l.col)
