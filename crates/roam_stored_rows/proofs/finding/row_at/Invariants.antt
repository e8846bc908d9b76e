use Rattle.std.proofs.Common.{◌≡◌, ◌-◌, ◌≤◌, drop, take}
use Rattle.roam_stored_rows.specs.Blocks.{size_between, spelled}
use Rattle.roam_stored_rows.proofs.finding.row_at.Given as goal

abbrev pub invariant-loop-at : goal.invariant-loop-at
invariant-loop-at l = record {
  line : l.buffers.line.items ≡ spelled l.folded (take (l.at - l.low) (drop l.low l.rows));
  start : size_between l.folded l.rows l.low l.at ≤ l.place;
}
