-- The sizes that a screen may have, in rows and columns, and those of version 1 of the protocol (this project's profile).
use Rattle.std.specs.Prelude.{ℕ, ◌≤◌}

-- the least number of rows of a screen
abbrev pub least_rows : ℕ
least_rows = 2

-- the most rows of a screen
abbrev pub most_rows : ℕ
most_rows = 200

-- the least number of columns of a screen
abbrev pub least_columns : ℕ
least_columns = 4

-- the most columns of a screen
abbrev pub most_columns : ℕ
most_columns = 500

-- the most rows of a screen in version 1
abbrev pub most_old_rows : ℕ
most_old_rows = 100

-- the most columns of a screen in version 1
abbrev pub most_old_columns : ℕ
most_old_columns = 250

-- a size that a screen may have
pub record IsSize (rows cols : ℕ) : Type 0 where
  pub least_rows : least_rows ≤ rows
  pub most_rows : rows ≤ most_rows
  pub least_columns : least_columns ≤ cols
  pub most_columns : cols ≤ most_columns
