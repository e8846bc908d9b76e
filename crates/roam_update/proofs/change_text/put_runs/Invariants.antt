use Rattle.std.proofs.Common.{◌≡◌, ◌≤◌, ◌+◌, ◌-◌, length}
use Rattle.roam_screens.specs.Lines.{cells_in_order, AreLines}
use Rattle.roam_update.specs.Put.{runs_put}
use Rattle.roam_update.proofs.change_text.put_runs.Given as goal

abbrev pub invariant-loop-k : goal.invariant-loop-k
invariant-loop-k l =
    record {
      lines : AreLines (length l.fn.rows.items) l.cols l.rows.items;
      few : l.least ≤ l.end + 1;
      same : runs_put l.form (l.n - l._k) l.least (cells_in_order l.rows.items) l.rest ≡ runs_put l.fn.form l.n 0 (cells_in_order l.fn.rows.items) l.text;
    }
