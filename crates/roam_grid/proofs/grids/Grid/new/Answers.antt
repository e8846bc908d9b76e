use Rattle.std.proofs.Common.{ap, ◌∙◌, arith, length, Bool}
use Rattle.std.proofs.lemmas.Bool.{false≢true}
use Rattle.roam_cells.specs.Limits.{IsSize}
use Rattle.roam_rows.specs.Rows.{Rows}
use Rattle.roam_grid.proofs.Starting.{length-start_stops}
use Rattle.roam_grid.proofs.grids.Grid.new.Goals as goal

pub invariant_of-result : goal.invariant_of-result
invariant_of-result c =
    let a = c.args in
    let size : IsSize a.rows a.cols = c.is_size.ensures.size.0 c.if-not-is_size.false in
    let rows = ap (λ (v : Rows). v.rows) c.in_ok-new.ensures.ring in
    let cols = ap (λ (v : Rows). v.cols) c.in_ok-new.ensures.ring in
    record {
      size = rw (rows, cols) size;
      row_in = omega (arith, rows, size.least_rows);
      col_in = omega (arith, cols, size.least_columns);
      pends = λ h. absurd (false≢true h);
      margins = (omega (arith, size.least_rows), omega (arith, rows, size.least_rows));
      stops = ap (length {A = Bool}) c.stops_at_start.ensures.stops ∙ length-start_stops;
    }
