use Rattle.std.proofs.Common.{◌≡◌, map, take}
use Rattle.roam_layout.specs.Changes.{size_of}
use Rattle.roam_layout.specs.Faces.{picture_size}
use Rattle.test_term.proofs.faces.pictures.Given as goal

abbrev pub invariant-loop-k : goal.invariant-loop-k
invariant-loop-k l = map picture_size l.shots.items ≡ map size_of (take l.k l.rects)
