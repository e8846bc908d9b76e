use Rattle.std.proofs.Common.{◌≡◌, ◌≤◌, ◌-◌, length}
use Rattle.roam_screens.specs.Lines.{cells_in_order, AreLines}
use Rattle.roam_update.specs.Put.{cells_put}
use Rattle.roam_update.proofs.drafts.put_run.Given as goal

abbrev pub invariant-loop-place : goal.invariant-loop-place
invariant-loop-place l =
    record {
      lines : AreLines (length l.fn.rows.items) l.cols l.rows.items;
      within : l.place ≤ l.end;
      same : cells_put l.form (l.end - l.place) l.place (cells_in_order l.rows.items) l.rest ≡ cells_put l.fn.form l.n l.first (cells_in_order l.fn.rows.items) l.text;
    }

abbrev pub decreases-loop-place : goal.decreases-loop-place
decreases-loop-place l = l.end - l.place
