use Rattle.std.proofs.Common.{◌≤◌, ◌<◌, ◌-◌}
use Rattle.roam_stored_rows.specs.Blocks.{AreOn}
use Rattle.roam_stored_rows.proofs.finding.block_end.Given as goal

abbrev pub invariant-loop-end : goal.invariant-loop-end
invariant-loop-end l = record {
  some : l.low < l.end;
  within : l.end ≤ l.high;
  on : AreOn l.rows l.low l.end;
}

abbrev pub decreases-loop-end : goal.decreases-loop-end
decreases-loop-end l = l.most - l.end
