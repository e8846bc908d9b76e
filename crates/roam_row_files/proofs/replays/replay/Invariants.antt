use Rattle.std.proofs.Common.{◌≡◌, ◌≤◌, ◌+◌, ◌-◌, ℕ, List, drop, length}
use Rattle.roam_stored_rows.specs.Rows.{bytes_of}
use Rattle.roam_row_files.specs.Changes.{RowChange, after_all}
use Rattle.roam_row_files.specs.Reading.{Reads}
use Rattle.roam_row_files.proofs.replays.replay.Given as goal

abbrev pub invariant-loop-change : goal.invariant-loop-change
invariant-loop-change l = record {
  within : l.end ≤ length l.bytes;
  light : bytes_of l.rows.rows ≤ bytes_of l.initial.rows.rows + l.end;
  rows : (changes : List RowChange) (end : ℕ) → Reads (drop l.end l.bytes) changes end
      → (all : List RowChange) × Reads l.bytes all (l.end + end) × (after_all all l.initial.rows ≡ after_all changes l.rows);
}

abbrev pub decreases-loop-change : goal.decreases-loop-change
decreases-loop-change l = length l.bytes - l.end
