use Rattle.std.proofs.Common.{◌≡◌, ◌≤◌}
use Rattle.roam_grid.specs.Tabs.{stops_on}
use Rattle.roam_grid.proofs.tabs.stops_on.Given as goal

abbrev pub invariant-loop-left : goal.invariant-loop-left
invariant-loop-left l = record {
  inside : l.at ≤ l.last;
  stop : stops_on l.left l.last l.stops l.at ≡ stops_on l.n l.last l.stops l.col;
}

abbrev pub decreases-loop-left : goal.decreases-loop-left
decreases-loop-left l = l.left
