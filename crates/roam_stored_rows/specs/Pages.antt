-- What a reader gets: rows from a number on, as many as it asks for and a limit of bytes allows.
use Rattle.std.specs.Prelude.{ℕ, ◌+◌, ◌-◌, ◌<◌, ◌≤◌, ◌⊎◌, List, drop, length, max, min, take}
use Rattle.std.specs.List.{flat_map}
use Rattle.roam_stored_rows.specs.Rows.{RowsView, StoredRow, bytes_of, end_of, line_of}

-- the first number from which rows are read
abbrev pub start_of : RowsView → ℕ → ℕ
start_of view from = min (max from view.first) (end_of view)

-- so many rows from a number on, as far as there are some
abbrev pub asked : RowsView → ℕ → ℕ → List StoredRow
asked view from count = take count (drop (start_of view from - view.first) view.rows)

-- so many of these rows are read: all, or as many as a limit of bytes allows, but at least one
pub record IsFit (most : ℕ) (rows : List StoredRow) (count : ℕ) : Type 0 where
  pub among : count ≤ length rows
  pub fits : (bytes_of (take count rows) ≤ most) ⊎ (count ≤ 1)
  pub full : count < length rows → most < bytes_of (take (count + 1) rows)
  pub some : 0 < length rows → 0 < count

-- the lines of rows
abbrev pub lines_of : List StoredRow → List ℕ
lines_of rows = flat_map line_of rows
