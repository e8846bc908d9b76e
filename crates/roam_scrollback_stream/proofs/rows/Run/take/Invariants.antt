use Rattle.std.proofs.Common.{◌≡◌, ◌≤◌, ◌-◌, ◌++◌, ℕ, List, length, take}
use Rattle.roam_scrollback.specs.Lines.{no_lines}
use Rattle.roam_scrollback_stream.specs.Readings.{Reaches, reading_of}
use Rattle.roam_scrollback_stream.proofs.rows.Run.take.Given as goal

abbrev pub invariant-loop-at : goal.invariant-loop-at
invariant-loop-at l = record {
  within : l.at ≤ length l.piece;
  none : l.tellings.lines ≡ no_lines;
  normalize : l.self.terminals.normalize ≡ l.initial.self.terminals.normalize;
  reaches : (read output : List ℕ) → Reaches (reading_of l.initial.self.terminals l.initial.self.input) read (output ++ l.initial.tellings.out)
      → Reaches (reading_of l.self.terminals l.self.input) (read ++ take l.at l.piece) (output ++ l.tellings.out);
}

abbrev pub decreases-loop-at : goal.decreases-loop-at
decreases-loop-at l = length l.piece - l.at
