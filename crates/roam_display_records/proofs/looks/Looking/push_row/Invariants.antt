use Rattle.std.proofs.Common.{◌≡◌, ◌++◌}
use Rattle.roam_display_records.specs.Looks.{cells_text}
use Rattle.roam_display_records.proofs.looks.Looking.push_row.Given as goal

abbrev pub invariant-loop-col : goal.invariant-loop-col
invariant-loop-col l = l.text.items ≡ l.fn.text.items ++ cells_text l.self l.row l.col
