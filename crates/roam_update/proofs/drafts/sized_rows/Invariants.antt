use Rattle.std.proofs.Common.{◌≡◌}
use Rattle.roam_cells.specs.Place.{table}
use Rattle.roam_screens.specs.Lines.{cells_in_order, AreLines}
use Rattle.roam_update.specs.Sizes.{sized_at}
use Rattle.roam_update.proofs.drafts.sized_rows.Given as goal

abbrev pub invariant-loop-row : goal.invariant-loop-row
invariant-loop-row l =
    record {
      lines : AreLines l.row l.cols l.made.items;
      cells : cells_in_order l.made.items ≡ table l.row l.cols (sized_at l.cols l.base);
    }
