-- How many bytes the lines of rows have after a change.
use Rattle.std.proofs.Common.{◌+◌, ◌-◌, ◌≤◌, ◌==◌, Bool, true, false, length, min, nat_lt, take, arith, if◌then◌else◌}
use Rattle.std.proofs.lemmas.List.Sums.{sum_by_push, sum_by-take-drop, sum_by-take-le}
use Rattle.roam_stored_rows.specs.Ends.{empty_at}
use Rattle.roam_stored_rows.specs.Rows.{RowsView, bytes_of, end_of, size_of}
use Rattle.roam_row_files.specs.Changes.{RowChange, after, appends, begins, checks, clears, forgets, withdraws}
use Rattle.roam_row_files.specs.Records.{record_of}
use Rattle.roam_row_files.proofs.Framing.{record-length}

one-of : (b : Bool) (x y view : RowsView) → bytes_of x.rows ≤ bytes_of view.rows → bytes_of y.rows ≤ bytes_of view.rows
    → bytes_of (if b then x else y).rows ≤ bytes_of view.rows
one-of true x y view h i = h
one-of false x y view h i = i

-- they grow by no more than the record of the change
pub after-light : (change : RowChange) (view : RowsView) → bytes_of (after change view).rows ≤ bytes_of view.rows + length (record_of change)
after-light (begins number) view = omega (arith, one-of (number == end_of view) view (empty_at number) view (omega arith) (omega arith))
after-light (appends row) view = omega (arith, sum_by_push size_of view.rows row, record-length (appends row))
after-light (withdraws end) view =
    omega (
      arith,
      one-of (nat_lt end view.first) (empty_at end) (record view { rows = take (end - view.first) view.rows }) view (omega arith)
          (sum_by-take-le size_of view.rows (end - view.first)),
    )
after-light clears view = omega arith
after-light (forgets first) view = omega (arith, sum_by-take-drop size_of view.rows (min (first - view.first) (length view.rows)))
after-light (checks count rows cols text) view = omega arith
