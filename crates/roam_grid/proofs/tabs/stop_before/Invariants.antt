use Rattle.std.proofs.Common.{◌≡◌, ◌≤◌}
use Rattle.roam_grid.specs.Tabs.{stop_before}
use Rattle.roam_grid.proofs.tabs.stop_before.Given as goal

abbrev pub invariant-loop-at : goal.invariant-loop-at
invariant-loop-at l = record {
  inside : l.at ≤ l.col;
  stop : stop_before l.at l.stops ≡ stop_before l.col l.stops;
}

abbrev pub decreases-loop-at : goal.decreases-loop-at
decreases-loop-at l = l.at
