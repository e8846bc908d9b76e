use Rattle.std.proofs.Common.{◌≤◌}
use Rattle.roam_rows.specs.Vertical.{AreLowered, IsSameShape}
use Rattle.roam_rows.proofs.rings.Ring.lower_rows.Given as goal

abbrev pub invariant-loop-r : goal.invariant-loop-r
invariant-loop-r l = record {
  low : l.from ≤ l.r;
  shape : IsSameShape l.initial.self l.self;
  lowered : AreLowered l.initial.self.rows l.initial.self.cols l.r l.to l.n l.initial.self.cells l.self.cells;
}
