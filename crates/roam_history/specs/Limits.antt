-- How many rows a history may keep, and of how many columns.
use Rattle.std.specs.Prelude.{ℕ, ◌≤◌}
use Rattle.roam_cells.specs.Limits.{least_columns, most_columns}

-- the most lines of a history
abbrev pub most_lines : ℕ
most_lines = 500

-- a number of lines that a history may keep, and of columns that each may have (this project's profile)
pub record IsHistorySize (lines cols : ℕ) : Type 0 where
  pub most_lines : lines ≤ most_lines
  pub least_columns : least_columns ≤ cols
  pub most_columns : cols ≤ most_columns
