use Rattle.std.proofs.Common.{◌≡◌, ◌-◌, drop, take}
use Rattle.roam_stored_rows.specs.Blocks.{spelled}
use Rattle.roam_stored_rows.proofs.finding.gather_block.Given as goal

abbrev pub invariant-loop-next : goal.invariant-loop-next
invariant-loop-next l = l.buffers.line.items ≡ spelled l.folded (take (l.next - l.low) (drop l.low l.rows))
