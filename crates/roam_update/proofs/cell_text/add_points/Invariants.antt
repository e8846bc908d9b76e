use Rattle.std.proofs.Common.{◌≡◌, ◌++◌, take}
use Rattle.roam_update.specs.CellText.{points_text}
use Rattle.roam_update.proofs.cell_text.add_points.Given as goal

abbrev pub invariant-loop-point : goal.invariant-loop-point
invariant-loop-point l = l.text.items ≡ l.fn.text.items ++ points_text (take l.point-index l.points)
