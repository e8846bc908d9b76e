use Rattle.std.proofs.Common.{◌≡◌, drop}
use Rattle.roam_rewrap.specs.Windows.{LeavesRange, position_from, start_position}
use Rattle.roam_rewrap.proofs.places.start_of.Given as goal

abbrev pub invariant-loop-one : goal.invariant-loop-one
invariant-loop-one l = record {
  position : position_from l.position l.left (drop l.one-index l.rows) ≡ position_from start_position l.fn.row l.rows;
  none : LeavesRange l.position l.left (drop l.one-index l.rows) → LeavesRange start_position l.fn.row l.rows;
}
