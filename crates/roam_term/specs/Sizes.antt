-- Other sizes: the memory prepared for a terminal.
use Rattle.std.specs.Prelude.{◌≡◌, ℕ}
use Rattle.roam_cells.specs.Limits.{IsSize}
use Rattle.roam_history.specs.Fitting.{HistorySize}
use Rattle.roam_rows.specs.Sizing.{Size}

-- a number of rows, of columns, and of lines of history
pub record TermSize : Type 0 where
  pub rows : ℕ
  pub cols : ℕ
  pub lines : ℕ

-- both screens and the history have one size, within a screen's limits
pub record IsFit (shown other : Size) (history : HistorySize) : Type 0 where
  pub size : IsSize shown.rows shown.cols
  pub same : other ≡ shown
  pub cols : history.cols ≡ shown.cols
