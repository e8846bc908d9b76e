use Rattle.std.proofs.Common.{◌≡◌, take, map}
use Rattle.roam_history.specs.Lines.{refitted_row}
use Rattle.roam_history.proofs.histories.History.adopt.Given as goal

abbrev pub invariant-loop-i : goal.invariant-loop-i
invariant-loop-i l = record {
  lines : l.history.lines ≡ l.initial.history.lines;
  cols : l.history.cols ≡ l.initial.history.cols;
  rows : l.history.rows ≡ map (refitted_row l.initial.history.cols) (take l.i l.self.rows);
}
