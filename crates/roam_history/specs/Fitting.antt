-- A history brought to other columns.
use Rattle.std.specs.Prelude.{ℕ, map}
use Rattle.roam_history.specs.Histories.{Scrollback}
use Rattle.roam_history.specs.Lines.{refitted_row}

-- a number of lines and of columns
pub record HistorySize : Type 0 where
  pub lines : ℕ
  pub cols : ℕ

-- a history at another number of columns: each row is cut or padded
abbrev pub after_refit : ℕ → Scrollback → Scrollback
after_refit cols h = record { lines = h.lines; cols = cols; rows = map (refitted_row cols) h.rows }
