use Rattle.std.proofs.Common.{◌≡◌, ◌+◌, ◌≤◌, ◌++◌, drop, length, List}
use Rattle.roam_stored_rows.specs.Chunks.{AllWhole, joined}
use Rattle.roam_stored_rows.specs.Rows.{StoredRow}
use Rattle.roam_stored_rows.proofs.row_chunks.forget.Given as goal

abbrev pub invariant-loop-left : goal.invariant-loop-left
invariant-loop-left l = record {
  rest : (last : List StoredRow) → drop l.left (joined l.chunks.items ++ last) ≡ drop l.dropped (joined l.initial.chunks.items ++ last);
  count : length (joined l.chunks.items) + l.dropped ≡ length (joined l.initial.chunks.items) + l.left;
  chunks : AllWhole l.chunks.items;
  fewer : l.left ≤ l.dropped;
}

abbrev pub decreases-loop-left : goal.decreases-loop-left
decreases-loop-left l = l.left
