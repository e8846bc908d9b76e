use Rattle.std.proofs.Common.{◌≡◌, ◌-◌, ◌++◌, drop, take}
use Rattle.roam_stored_rows.specs.Pages.{lines_of}
use Rattle.roam_stored_rows.proofs.reading.push_lines.Given as goal

abbrev pub invariant-loop-next : goal.invariant-loop-next
invariant-loop-next l = l.out.items ≡ l.initial.out.items ++ lines_of (take (l.next - l.at) (drop l.at l.rows))
