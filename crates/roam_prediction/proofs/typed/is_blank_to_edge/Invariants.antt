use Rattle.std.proofs.Common.{◌≡◌, drop}
use Rattle.roam_prediction.specs.Typing.{is_blank_to_edge}
use Rattle.roam_prediction.proofs.typed.is_blank_to_edge.Given as goal

abbrev pub invariant-loop-cell : goal.invariant-loop-cell
invariant-loop-cell l = is_blank_to_edge l.cells ≡ is_blank_to_edge (drop l.cell-index l.cells)
