use Rattle.std.proofs.Common.{◌≡◌, ◌≤◌, ◌<◌, ◌-◌, ◌⊎◌, ℕ, drop, length}
use Rattle.roam_stored_rows.specs.Rows.{bytes_of}
use Rattle.roam_stored_rows.proofs.reading.above.Given as goal

abbrev pub invariant-loop-count : goal.invariant-loop-count
invariant-loop-count l = record {
  some : l.count ≤ length l.rows;
  bytes : l.left ≡ bytes_of (drop l.count l.rows);
  fewest : (k : ℕ) → k < l.count → (l.most_rows < length (drop k l.rows)) ⊎ (l.most_bytes < bytes_of (drop k l.rows));
}

abbrev pub decreases-loop-count : goal.decreases-loop-count
decreases-loop-count l = length l.rows - l.count
