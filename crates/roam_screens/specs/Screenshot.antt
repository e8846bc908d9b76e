-- A screen as it is shown.
use Rattle.std.specs.Prelude.{◌≡◌, ℕ, ◌*◌, ◌≤◌, Bool, true, List, length, replicate}
use Rattle.std.specs.List.{flat_map}
use Rattle.roam_cells.specs.Glyph.{Glyph, blank}
use Rattle.roam_cells.specs.Limits.{IsSize}
use Rattle.roam_cells.specs.Place.{AreWhole, AreUnguarded, AreShown, row_of}

-- a screen as it is shown: its size, its cells in reading order, the cursor's row and column from 1 (as in CUP, ECMA-48 8.3.21), and the
-- cursor's visibility
pub record Screenshot : Type 0 where
  pub rows : ℕ
  pub cols : ℕ
  pub cells : List Glyph
  pub cursor_row : ℕ
  pub cursor_col : ℕ
  pub visible : Bool

-- a row and a column, both from 1, that a screen of this size has
pub record IsPlace (rows cols row col : ℕ) : Type 0 where
  pub row_from : 1 ≤ row
  pub row_to : row ≤ rows
  pub col_from : 1 ≤ col
  pub col_to : col ≤ cols

-- the facts about each screen that is shown
pub record IsScreenshot (s : Screenshot) : Type 0 where
  pub size : IsSize s.rows s.cols
  pub count : length s.cells ≡ s.rows * s.cols
  pub cursor : IsPlace s.rows s.cols s.cursor_row s.cursor_col
  pub whole : AreWhole s.rows s.cols s.cells
  pub unguarded : AreUnguarded s.cells
  pub shown : AreShown s.cells

-- spaces in the default style, and a visible cursor in the first row and column
abbrev pub blank_screenshot : ℕ → ℕ → Screenshot
blank_screenshot rows cols =
    record {
      rows = rows;
      cols = cols;
      cells = replicate (rows * cols) blank;
      cursor_row = 1;
      cursor_col = 1;
      visible = true;
    }

-- the code points of a row, from 0, cell by cell; a right half has none
abbrev pub row_text : ℕ → List Glyph → ℕ → List ℕ
row_text cols cells r = flat_map (λ (g : Glyph). g.points) (row_of cols cells r)
