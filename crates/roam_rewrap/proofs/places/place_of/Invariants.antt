use Rattle.std.proofs.Common.{◌≡◌, ◌+◌, drop}
use Rattle.roam_rewrap.specs.Windows.{place_of}
use Rattle.roam_rewrap.proofs.places.place_of.Given as goal

abbrev pub invariant-loop-row : goal.invariant-loop-row
invariant-loop-row l = record {
  index : l.above ≡ l.row-index;
  row : l.above + (place_of l.left (drop l.row-index l.rows)).row ≡ (place_of l.fn.position l.rows).row;
  col : (place_of l.left (drop l.row-index l.rows)).col ≡ (place_of l.fn.position l.rows).col;
}
