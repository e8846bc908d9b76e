use Rattle.std.proofs.Common.{◌≡◌, ◌-◌, drop, take}
use Rattle.roam_stored_rows.specs.Rows.{bytes_of}
use Rattle.roam_stored_rows.proofs.reading.bytes_between.Given as goal

abbrev pub invariant-loop-next : goal.invariant-loop-next
invariant-loop-next l = l.bytes ≡ bytes_of (take (l.next - l.from) (drop l.from l.rows))
