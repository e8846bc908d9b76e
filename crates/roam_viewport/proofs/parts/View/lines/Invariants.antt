use Rattle.std.proofs.Common.{◌≡◌}
use Rattle.roam_cells.specs.Place.{table}
use Rattle.roam_viewport.specs.Parts.{part_at}
use Rattle.roam_viewport.proofs.parts.View.lines.Given as goal
use Rattle.roam_screens.specs.Lines.{cells_in_order, AreLines}

abbrev pub invariant-loop-row : goal.invariant-loop-row
invariant-loop-row l =
    record {
      lines : AreLines l.row l.self.part.cols l.lines.items;
      cells : cells_in_order l.lines.items ≡ table l.row l.self.part.cols (part_at l.self.part l.self.masks.now l.self.shot.now);
    }
