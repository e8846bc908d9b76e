use Rattle.roam_rows.specs.Vertical.{AreLifted, IsSameShape}
use Rattle.roam_rows.proofs.rings.Ring.lift_rows.Given as goal

abbrev pub invariant-loop-r : goal.invariant-loop-r
invariant-loop-r l = record {
  shape : IsSameShape l.initial.self l.self;
  lifted : AreLifted l.initial.self.rows l.initial.self.cols l.from l.r l.n l.initial.self.cells l.self.cells;
}
