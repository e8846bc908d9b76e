use Rattle.std.proofs.Common.{◌≡◌, ◌≤◌, ◌-◌, ◌⊎◌, drop, take}
use Rattle.roam_stored_rows.specs.Rows.{bytes_of}
use Rattle.roam_stored_rows.proofs.reading.fit.Given as goal

abbrev pub invariant-loop-next : goal.invariant-loop-next
invariant-loop-next l = record {
  begun : l.at ≤ l.next;
  within : l.next ≤ l.end;
  bytes : l.bytes ≡ bytes_of (take (l.next - l.at) (drop l.at l.rows));
  fits : (l.bytes ≤ l.most) ⊎ (l.next - l.at ≤ 1);
}

abbrev pub decreases-loop-next : goal.decreases-loop-next
decreases-loop-next l = l.end - l.next
