-- Rows of cells that go round in one buffer.
use Rattle.std.specs.Prelude.{◌≡◌, ℕ, ◌+◌, ◌-◌, ◌*◌, ◌<◌, ◌≤◌, List, length, replicate}
use Rattle.roam_cells.specs.Glyph.{Glyph, blank}
use Rattle.roam_cells.specs.Limits.{IsSize}
use Rattle.roam_cells.specs.Place.{cell_at, AreWhole}
use Rattle.roam_rows.specs.Row.{RowSource}
use Rattle.roam_rows.specs.Places.{Source, mapped_cells, in_row}
use Rattle.roam_rows.specs.Turned.{brought_back, in_order}

-- rows that go round in one buffer: their number, their columns, their cells in reading order, and the buffer's row that they begin with
pub record Rows : Type 0 where
  pub rows : ℕ
  pub cols : ℕ
  pub cells : List Glyph
  pub first : ℕ

-- the facts about all rows in a circular buffer
pub record AreRows (v : Rows) : Type 0 where
  pub limits : IsSize v.rows v.cols
  pub size : length v.cells ≡ v.rows * v.cols
  pub first_in : v.first < v.rows
  pub whole : AreWhole v.rows v.cols v.cells

-- blank rows
abbrev pub blank_rows : ℕ → ℕ → Rows
blank_rows rows cols = record { rows = rows; cols = cols; cells = replicate (rows * cols) blank; first = 0 }

-- the buffer that they go round in
abbrev pub buffer_of : Rows → List Glyph
buffer_of v = in_order v.cols (v.rows - v.first) v.cells

-- the rows from one on and before another keep their places in the buffer, with the same cells
abbrev pub KeepPlaces : ℕ → ℕ → Rows → Rows → Type 0
KeepPlaces from to v w =
    (r c : ℕ) → from ≤ r → r < to → r < v.rows → c < v.cols
    → cell_at v.cols (buffer_of w) (brought_back v.rows (v.first + r)) c
    ≡ cell_at v.cols (buffer_of v) (brought_back v.rows (v.first + r)) c

-- the rows after a map of places
abbrev pub mapped_rows : (ℕ → ℕ → Source) → Rows → Rows
mapped_rows source v = record v { cells = mapped_cells v.rows v.cols v.cells source }

-- one row after a map of its columns
abbrev pub with_row : ℕ → (ℕ → RowSource) → Rows → Rows
with_row row one v = mapped_rows (in_row row one) v

-- every cell of these rows is one cell
abbrev pub filled_rows : Glyph → Rows → Rows
filled_rows x v = record v { cells = replicate (v.rows * v.cols) x }
