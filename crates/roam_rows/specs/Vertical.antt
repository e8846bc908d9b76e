-- Rows that are moved up and down, and cut at an edge.
use Rattle.std.specs.Prelude.{◌≡◌, ◌≢◌, ℕ, ◌+◌, ◌-◌, ◌<◌, ◌≤◌, true, nat_lt, List, if◌then◌else◌}
use Rattle.roam_cells.specs.Glyph.{Glyph, blank}
use Rattle.roam_cells.specs.Place.{cell_at}
use Rattle.roam_rows.specs.Row.{mended_glyph}
use Rattle.roam_rows.specs.Rows.{Rows}
use Rattle.roam_rows.specs.Turned.{brought_back}

-- the cell in a column of a row that is cut or padded to a number of columns
abbrev pub cut_at_edge : ℕ → ℕ → List Glyph → ℕ → ℕ → Glyph
cut_at_edge new_cols cols cells r c = if nat_lt c cols then mended_glyph (cell_at cols cells r c) (nat_lt (c + 1) new_cols) true else blank

-- the same but for the cells
pub record IsSameShape (old new : Rows) : Type 0 where
  pub rows : new.rows ≡ old.rows
  pub cols : new.cols ≡ old.cols
  pub first : new.first ≡ old.first

-- the first n rows have become the last
pub record AreTurned (n : ℕ) (old new : Rows) : Type 0 where
  pub rows : new.rows ≡ old.rows
  pub cols : new.cols ≡ old.cols
  pub first : new.first ≡ brought_back old.rows (old.first + n)
  pub up : (r c : ℕ) → r + n < old.rows → c < old.cols → cell_at old.cols new.cells r c ≡ cell_at old.cols old.cells (r + n) c
  pub round : (r c : ℕ) → r < old.rows → old.rows ≤ r + n → c < old.cols
      → cell_at old.cols new.cells r c ≡ cell_at old.cols old.cells (r + n - old.rows) c

-- one row shows what another did
pub record IsCopied (source target : ℕ) (old new : Rows) : Type 0 where
  pub shape : IsSameShape old new
  pub here : (c : ℕ) → c < old.cols → cell_at old.cols new.cells target c ≡ cell_at old.cols old.cells source c
  pub below : (r c : ℕ) → r < target → c < old.cols → cell_at old.cols new.cells r c ≡ cell_at old.cols old.cells r c
  pub above : (r c : ℕ) → target < r → r < old.rows → c < old.cols
      → cell_at old.cols new.cells r c ≡ cell_at old.cols old.cells r c

-- one row shows the same as a row of other rows, cut at the right edge
pub record IsTaken (row source : ℕ) (other old new : Rows) : Type 0 where
  pub shape : IsSameShape old new
  pub here : (c : ℕ) → c < old.cols → cell_at old.cols new.cells row c ≡ cut_at_edge old.cols other.cols other.cells source c
  pub others : (r c : ℕ) → r < old.rows → c < old.cols → r ≢ row
      → cell_at old.cols new.cells r c ≡ cell_at old.cols old.cells r c

-- the rows from one on and before another are blank, and the others stay
pub record AreBlanked (rows cols from to : ℕ) (old new : List Glyph) : Type 0 where
  pub inside : (r c : ℕ) → from ≤ r → r < to → c < cols → cell_at cols new r c ≡ blank
  pub above : (r c : ℕ) → r < from → c < cols → cell_at cols new r c ≡ cell_at cols old r c
  pub below : (r c : ℕ) → to ≤ r → r < rows → c < cols → cell_at cols new r c ≡ cell_at cols old r c

-- the rows from one on and before another show the cells of those n below, and the others stay
pub record AreLifted (rows cols from to n : ℕ) (old new : List Glyph) : Type 0 where
  pub inside : (r c : ℕ) → from ≤ r → r < to → c < cols → cell_at cols new r c ≡ cell_at cols old (r + n) c
  pub above : (r c : ℕ) → r < from → c < cols → cell_at cols new r c ≡ cell_at cols old r c
  pub below : (r c : ℕ) → to ≤ r → r < rows → c < cols → cell_at cols new r c ≡ cell_at cols old r c

-- the rows from one on and before another show the cells of those n above, and the others stay
pub record AreLowered (rows cols from to n : ℕ) (old new : List Glyph) : Type 0 where
  pub inside : (r c : ℕ) → from ≤ r → r < to → c < cols → cell_at cols new r c ≡ cell_at cols old (r - n) c
  pub above : (r c : ℕ) → r < from → c < cols → cell_at cols new r c ≡ cell_at cols old r c
  pub below : (r c : ℕ) → to ≤ r → r < rows → c < cols → cell_at cols new r c ≡ cell_at cols old r c
