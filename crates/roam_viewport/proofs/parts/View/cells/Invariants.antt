use Rattle.std.proofs.Common.{◌≡◌, map}
use Rattle.std.specs.List.{range_with_len}
use Rattle.roam_viewport.specs.Parts.{part_at}
use Rattle.roam_viewport.proofs.parts.View.cells.Given as goal

abbrev pub invariant-loop-col : goal.invariant-loop-col
invariant-loop-col l = l.cells.items ≡ map (part_at l.self.part l.self.masks.now l.self.shot.now l.row) (range_with_len 0 l.col)
