use Rattle.std.proofs.Common.{◌≡◌}
use Rattle.roam_grid.specs.Marks.{unguarded_marked}
use Rattle.roam_grid.proofs.marks.mark_unguarded.Given as goal

abbrev pub invariant-loop-r : goal.invariant-loop-r
invariant-loop-r l = record { marks : l.marks ≡ unguarded_marked l.ring.cols l.ring.cells l.fn.rows.0 l.r l.columns.0 l.columns.1 l.initial.marks }
