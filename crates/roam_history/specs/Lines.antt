-- One row of a history, cut or padded to its columns.
use Rattle.std.specs.Prelude.{◌≡◌, ℕ, ◌+◌, ◌-◌, ◌≤◌, ◌&&◌, ◌==◌, List, ◌++◌, length, map, replicate, if◌then◌else◌}
use Rattle.std.specs.List.{range_with_len}
use Rattle.roam_cells.specs.Glyph.{Glyph, is_wide, space_in, blank}
use Rattle.roam_cells.specs.Place.{glyph_at}

-- cells with blanks after them, up to a number of columns
abbrev pub with_blanks : ℕ → List Glyph → List Glyph
with_blanks cols front = front ++ replicate (cols - length front) blank

-- a column of a row that is cut or padded with blanks: a wide cell in the last column, cut in two, becomes a space in its style and guard
-- (this project's profile)
abbrev pub refitted_at : ℕ → List Glyph → ℕ → Glyph
refitted_at cols row c = if (is_wide (glyph_at row c) && (c + 1 == cols)) then space_in (glyph_at row c) else glyph_at row c

-- a row that is cut or padded to a number of columns
abbrev pub refitted_row : ℕ → List Glyph → List Glyph
refitted_row cols row = map (refitted_at cols row) (range_with_len 0 cols)

-- the columns of a line from one on are blank
pub record IsWritten (written : ℕ) (cells : List Glyph) : Type 0 where
  pub few : written ≤ length cells
  pub rest : (c : ℕ) → written ≤ c → glyph_at cells c ≡ blank
