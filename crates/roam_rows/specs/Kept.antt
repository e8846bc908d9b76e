-- How rows are kept in their buffer.
use Rattle.std.specs.Prelude.{◌≡◌, ℕ, ◌<◌, ◌≤◌, List, length, slice_index}
use Rattle.roam_cells.specs.Glyph.{Glyph, blank}
use Rattle.roam_cells.specs.Place.{cell_at}
use Rattle.roam_rows.specs.Rows.{Rows}
use Rattle.roam_rows.specs.Turned.{IsTurned, in_order}
use Rattle.roam_rows.specs.declared.rings.Ring.TheInside.{Inside}

-- the value of a ring: its rows in the order of the screen
abbrev pub view_of : Inside → Rows
view_of a = record { rows = a.rows; cols = a.cols; cells = in_order a.cols a.first a.cells.items; first = a.first }

-- of each row of a buffer, the columns from its length on are blank
pub record AreLengths (rows cols : ℕ) (buffer : List Glyph) (lengths : List ℕ) : Type 0 where
  pub count : length lengths ≡ rows
  pub low : (at : ℕ) → at < rows → slice_index lengths at ≤ cols
  pub rest : (at c : ℕ) → at < rows → slice_index lengths at ≤ c → c < cols → cell_at cols buffer at c ≡ blank

-- the facts about the fields of every ring
pub record IsKept (a : Inside) : Type 0 where
  pub turned : IsTurned a.rows a.cols a.first a.cells.items
  pub lengths : AreLengths a.rows a.cols a.cells.items a.lengths.items
