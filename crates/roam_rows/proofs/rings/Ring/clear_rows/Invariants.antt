use Rattle.roam_rows.specs.Vertical.{AreBlanked, IsSameShape}
use Rattle.roam_rows.proofs.rings.Ring.clear_rows.Given as goal

abbrev pub invariant-loop-r : goal.invariant-loop-r
invariant-loop-r l = record {
  shape : IsSameShape l.initial.self l.self;
  blanked : AreBlanked l.initial.self.rows l.initial.self.cols l.from l.r l.initial.self.cells l.self.cells;
}
