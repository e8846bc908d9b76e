-- Changes of stored rows. Each names rows by number, so that it means the same if the oldest rows are missing.
use Rattle.std.specs.Prelude.{◌≡◌, ℕ, ◌-◌, ◌≤◌, ◌==◌, List, [], ◌∷◌, drop, length, min, nat_lt, take, if◌then◌else◌}
use Rattle.roam_stored_rows.specs.Ends.{added, empty_at, without}
use Rattle.roam_stored_rows.specs.Rows.{RowsView, StoredRow, end_of}
use Rattle.roam_row_files.specs.declared.changes.Change.{Change}
use Rattle.roam_row_files.specs.declared.changes.Change.TheVariants.{Begin, Append, Withdraw, Clear, Forget, Check}

-- a segment begins, whose first row gets this number; one row more; the rows from a number on are withdrawn; all rows go; the rows below a
-- number are dropped; a checkpoint: how many bytes of input there were, the size, and the text that restores the terminal
pub data RowChange : Type 0 where
  begins : (number : ℕ) → RowChange
  appends : (row : StoredRow) → RowChange
  withdraws : (end : ℕ) → RowChange
  clears : RowChange
  forgets : (first : ℕ) → RowChange
  checks : (count rows cols : ℕ) (text : List ℕ) → RowChange

-- a change as the program has it
abbrev pub said : Change → RowChange
said (Begin number) = begins number
said (Append wrap text) = appends (record { wrap = wrap; text = text.now })
said (Withdraw end) = withdraws end
said Clear = clears
said (Forget first) = forgets first
said (Check point) = checks point.count point.rows point.cols point.text.now

-- rows without those from a number on; the next one has this number, if there were rows up to it or none that are older
abbrev pub back_to : ℕ → RowsView → RowsView
back_to end view = if nat_lt end view.first then empty_at end else record view { rows = take (end - view.first) view.rows }

-- rows without those below a number
abbrev pub from_on : ℕ → RowsView → RowsView
from_on first view = without (min (first - view.first) (length view.rows)) view

-- rows after a change; rows that don't reach up to the begin of a segment are dropped
abbrev pub after : RowChange → RowsView → RowsView
after (begins number) view = if number == end_of view then view else empty_at number
after (appends row) view = added row view
after (withdraws end) view = back_to end view
after clears view = empty_at (end_of view)
after (forgets first) view = from_on first view
after (checks count rows cols text) view = view

-- rows after changes
abbrev pub after_all : List RowChange → RowsView → RowsView
after_all [] view = view
after_all (change ∷ changes) view = after_all changes (after change view)

-- rows are the newest of others, by the same numbers
pub record IsTail (tail view : RowsView) : Type 0 where
  pub end : end_of tail ≡ end_of view
  pub begun : view.first ≤ tail.first
  pub rows : tail.rows ≡ drop (tail.first - view.first) view.rows
