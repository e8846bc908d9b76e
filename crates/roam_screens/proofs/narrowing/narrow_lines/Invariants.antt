use Rattle.std.proofs.Common.{◌≡◌}
use Rattle.roam_screens.specs.Lines.{cells_in_order, AreLines}
use Rattle.roam_screens.specs.Narrow.{narrow_at}
use Rattle.roam_cells.specs.Place.{table}
use Rattle.roam_screens.proofs.narrowing.narrow_lines.Given as goal

abbrev pub invariant-loop-row : goal.invariant-loop-row
invariant-loop-row g l =
    record {
      lines : AreLines l.row l.fn.cols l.lines.items;
      cells : cells_in_order l.lines.items ≡ table l.row l.fn.cols (narrow_at (g.S.Seen.screen l.shot));
    }
