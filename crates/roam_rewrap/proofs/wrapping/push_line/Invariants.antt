use Rattle.std.proofs.Common.{◌≡◌, ◌≤◌, ◌-◌, ◌++◌, ℕ, length, drop}
use Rattle.roam_rewrap.specs.Wrapping.{rows_within, rows_of_line}
use Rattle.roam_rewrap.proofs.wrapping.push_line.Given as goal

abbrev pub invariant-loop-at : goal.invariant-loop-at
invariant-loop-at l = record {
  within : l.at ≤ length l.line;
  fuel : ℕ;
  enough : length l.line - l.at ≤ fuel;
  rows : l.rows.items ++ rows_within fuel l.cols (drop l.at l.line) ≡ l.initial.rows.items ++ rows_of_line l.cols l.line;
}

abbrev pub decreases-loop-at : goal.decreases-loop-at
decreases-loop-at l = length l.line - l.at
