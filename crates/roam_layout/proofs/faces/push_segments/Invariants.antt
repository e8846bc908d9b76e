use Rattle.std.proofs.Common.{◌≡◌, ◌++◌, drop}
use Rattle.roam_layout.specs.Faces.{segments}
use Rattle.roam_layout.proofs.faces.push_segments.Given as goal

abbrev pub invariant-loop-k : goal.invariant-loop-k
invariant-loop-k g l =
    l.cells.items ++ segments l.row (drop l.k l.rects) (drop l.k l.borders) (drop l.k (g.P.Pictures.shots l.pictures))
    ≡ l.initial.cells.items ++ segments l.row l.rects l.borders (g.P.Pictures.shots l.pictures)
