use Rattle.std.proofs.Common.{◌-◌, ◌≡◌, ◌+◌, ◌≤◌}
use Rattle.roam_grid.specs.Tabs.{stop_from}
use Rattle.roam_grid.proofs.tabs.next_stop.Given as goal

abbrev pub invariant-loop-at : goal.invariant-loop-at
invariant-loop-at l = record {
  inside : l.at ≤ l.last;
  stop : stop_from (l.last - l.at) l.at l.stops ≡ stop_from (l.last - (l.col + 1)) (l.col + 1) l.stops;
}

abbrev pub decreases-loop-at : goal.decreases-loop-at
decreases-loop-at l = l.last - l.at
