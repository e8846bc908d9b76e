use Rattle.std.proofs.Common.{◌≡◌, ℕ, ◌<◌, [], length, get_or}
use Rattle.roam_cells.specs.Place.{row_of}
use Rattle.roam_update.proofs.drafts.shared_rows.Given as goal

abbrev pub invariant-loop-row : goal.invariant-loop-row
invariant-loop-row l =
    record {
      count : length l.rows.items ≡ l.row;
      each : (r : ℕ) → r < l.row → get_or l.rows.items r [] ≡ row_of l.base.cols l.base.cells r;
    }
