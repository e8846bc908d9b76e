use Rattle.std.proofs.Common.{◌≡◌, ◌+◌, ◌-◌, length}
use Rattle.roam_update.specs.Put.{cells_put}
use Rattle.roam_update.proofs.change_text.put_cells.Given as goal

abbrev pub invariant-loop-k : goal.invariant-loop-k
invariant-loop-k l =
    record {
      len : length l.cells ≡ length l.fn.cells;
      same : cells_put l.form (l.n - l.k) (l.first + l.k) l.cells l.rest ≡ cells_put l.fn.form l.n l.first l.fn.cells l.text;
    }
