use Rattle.std.proofs.Common.{◌≡◌, ◌++◌, drop}
use Rattle.roam_rewrap.specs.Lines.{lines_from}
use Rattle.roam_rewrap.specs.Wrapping.{rows_of_lines, rewrapped}
use Rattle.roam_rewrap.proofs.wrapping.rewrap.Given as goal

abbrev pub invariant-loop-row : goal.invariant-loop-row
invariant-loop-row l = l.made.items ++ rows_of_lines l.cols (lines_from l.line.items (drop l.row-index l.rows)) ≡ rewrapped l.cols l.rows
