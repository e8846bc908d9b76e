use Rattle.std.proofs.Common.{◌≡◌, ◌≤◌}
use Rattle.roam_grid.specs.Tabs.{stops_back}
use Rattle.roam_grid.proofs.tabs.stops_back.Given as goal

abbrev pub invariant-loop-left : goal.invariant-loop-left
invariant-loop-left l = record {
  inside : l.at ≤ l.col;
  stop : stops_back l.left l.stops l.at ≡ stops_back l.n l.stops l.col;
}

abbrev pub decreases-loop-left : goal.decreases-loop-left
decreases-loop-left l = l.left
