use Rattle.std.proofs.Common.{◌≡◌, ◌≤◌, ◌<◌, ◌-◌, ◌++◌, encode_utf8_all, length}
use Rattle.roam_stored_rows.specs.Blocks.{spelled_line}
use Rattle.roam_stored_rows.proofs.Blocks.{rest_behind}
use Rattle.roam_stored_rows.proofs.finding.gather.Given as goal

abbrev pub invariant-loop-next : goal.invariant-loop-next
invariant-loop-next l = record {
  is : spelled_line l.sought.folded l.rows l.low ≡ l.buffers.line.items ++ encode_utf8_all (rest_behind l.sought.folded l.rows l.next);
  inside : l.next < length l.rows;
  size : l.size ≤ length l.buffers.line.items;
}

abbrev pub decreases-loop-next : goal.decreases-loop-next
decreases-loop-next l = length l.rows - l.next
