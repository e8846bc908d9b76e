-- The ends of stored rows: the newest are withdrawn, and the oldest dropped.
use Rattle.std.specs.Prelude.{◌≡◌, ℕ, ◌+◌, ◌-◌, ◌<◌, ◌≤◌, ◌⊎◌, List, [], ◌∷◌, ◌++◌, drop, length, take}
use Rattle.roam_stored_rows.specs.Rows.{RowsView, StoredRow, bytes_of}

-- no rows, and the number of the first that comes
abbrev pub empty_at : ℕ → RowsView
empty_at first = record { first = first; rows = [] }

-- rows with one more behind them
abbrev pub added : StoredRow → RowsView → RowsView
added row view = record view { rows = view.rows ++ row ∷ [] }

-- rows without so many of the newest
abbrev pub withdrawn : ℕ → RowsView → RowsView
withdrawn count view = record view { rows = take (length view.rows - count) view.rows }

-- rows without so many of the oldest
abbrev pub without : ℕ → RowsView → RowsView
without count view = record { first = view.first + count; rows = drop count view.rows }

-- rows are within limits of their count and of the bytes of their lines
abbrev pub IsWithin : ℕ → ℕ → List StoredRow → Type 0
IsWithin most_rows most_bytes rows = (length rows ≤ most_rows) × (bytes_of rows ≤ most_bytes)

-- the oldest rows are dropped, as many as limits ask for: what is left is within them, and with one row more it isn't
pub record IsLimited (most_rows most_bytes : ℕ) (old new : RowsView) : Type 0 where
  pub count : ℕ
  pub some : count ≤ length old.rows
  pub is : new ≡ without count old
  pub within : IsWithin most_rows most_bytes new.rows
  pub fewest : (k : ℕ) → k < count → (most_rows < length (drop k old.rows)) ⊎ (most_bytes < bytes_of (drop k old.rows))
