-- One screen: its size, its cells, its cursor, margins and tab stops.
use Rattle.std.specs.Prelude.{◌≡◌, ℕ, ◌+◌, ◌-◌, ◌*◌, ◌<◌, Bool, true, false, ◌&&◌, ◌==◌, replicate, List, length}
use Rattle.roam_cells.specs.Limits.{most_columns}
use Rattle.roam_cells.specs.Glyph.{Glyph, blank}
use Rattle.roam_cells.specs.Limits.{IsSize}
use Rattle.roam_cells.specs.Place.{AreWhole}
use Rattle.roam_rows.specs.Places.{Source, mapped_cells}
use Rattle.roam_rows.specs.Rows.{Rows}
use Rattle.roam_grid.specs.Tabs.{start_stops}

-- one screen: its size, its cells in reading order, the cursor, the pending wrap, the margins and the tab stops; rows and columns from 0
-- (this project's profile)
pub record Screen : Type 0 where
  pub rows : ℕ
  pub cols : ℕ
  pub cells : List Glyph
  pub row : ℕ
  pub col : ℕ
  pub pending : Bool
  pub top : ℕ
  pub bottom : ℕ
  pub stops : List Bool

-- the value of a grid for contracts: the screen, the row of its buffer that the screen begins with, and the marks of 200 rows
pub record GridView : Type 0 where
  pub screen : Screen
  pub first : ℕ
  pub marks : List Bool

-- the rows of a grid, as they go round in its buffer
abbrev pub rows_of : GridView → Rows
rows_of v = record { rows = v.screen.rows; cols = v.screen.cols; cells = v.screen.cells; first = v.first }

-- the size is in the limits, the cursor and the margins are on the screen, a wrap is pending in the last column only, and each possible
-- column has its stop or none
pub record IsFrame (s : Screen) : Type 0 where
  pub size : IsSize s.rows s.cols
  pub row_in : s.row < s.rows
  pub col_in : s.col < s.cols
  pub pends : s.pending ≡ true → s.col + 1 ≡ s.cols
  pub margins : (s.top < s.bottom) × (s.bottom < s.rows)
  pub stops : length s.stops ≡ most_columns

-- a frame round whole characters
pub record IsScreen (s : Screen) : Type 0 where
  pub frame : IsFrame s
  pub size : length s.cells ≡ s.rows * s.cols
  pub whole : AreWhole s.rows s.cols s.cells

-- a blank screen, the cursor at its start, with full margins
abbrev pub start : ℕ → ℕ → Screen
start rows cols =
    record {
      rows = rows;
      cols = cols;
      cells = replicate (rows * cols) blank;
      row = 0;
      col = 0;
      pending = false;
      top = 0;
      bottom = rows - 1;
      stops = start_stops;
    }

-- whether the margins are at the edges
abbrev pub has_full_margins : Screen → Bool
has_full_margins s = (s.top == 0) && (s.bottom + 1 == s.rows)

-- the screen after a map of places
abbrev pub mapped_screen : (ℕ → ℕ → Source) → Screen → Screen
mapped_screen source s = record s { cells = mapped_cells s.rows s.cols s.cells source }

-- screens of one size
pub record IsSameSize (s t : Screen) : Type 0 where
  pub rows : t.rows ≡ s.rows
  pub cols : t.cols ≡ s.cols
