use Rattle.std.proofs.Common.{◌≤◌, ◌<◌}
use Rattle.roam_stored_rows.specs.Blocks.{AreOn}
use Rattle.roam_stored_rows.proofs.finding.block_start.Given as goal

abbrev pub invariant-loop-start : goal.invariant-loop-start
invariant-loop-start l = record {
  some : l.start < l.high;
  within : l.low ≤ l.start;
  on : AreOn l.rows l.start l.high;
}

abbrev pub decreases-loop-start : goal.decreases-loop-start
decreases-loop-start l = l.start
