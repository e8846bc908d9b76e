-- Stored rows: the number of the first one, and the rows from there on.
use Rattle.std.specs.Prelude.{◌≡◌, ℕ, ◌+◌, ◌^◌, ◌<◌, Bool, true, false, List, [], ◌∷◌, ◌++◌, length, slice_index_or, if◌then◌else◌}
use Rattle.std.specs.List.{sum_by}
use Rattle.roam_stored_rows.specs.declared.wraps.Wrap.{Wrap}
use Rattle.roam_stored_rows.specs.declared.wraps.Wrap.TheVariants.{Ends, Full, Early}

-- autowrap went on from a row
abbrev pub is_on : Wrap → Bool
is_on Ends = false
is_on Full = true
is_on Early = true

-- how a row ends, and its bytes: its letters between styles (`ESC [ .. m`), without the blank of an early wrap
pub record StoredRow : Type 0 where
  pub wrap : Wrap
  pub text : List ℕ

-- a row of no bytes, in place of one that isn't there
abbrev pub no_row : StoredRow
no_row = record { wrap = Ends; text = [] }

-- the row at a place
abbrev pub row_of : List StoredRow → ℕ → StoredRow
row_of rows at = slice_index_or rows at no_row

-- the view of stored rows: the number of the first, and the rows
pub record RowsView : Type 0 where
  pub first : ℕ
  pub rows : List StoredRow

-- the number after that of the last row
abbrev pub end_of : RowsView → ℕ
end_of view = view.first + length view.rows

-- a row's line: a plus if autowrap went on from it, else a space, its bytes, and LF
abbrev pub line_of : StoredRow → List ℕ
line_of row = (if is_on row.wrap then 43 else 32) ∷ row.text ++ 10 ∷ []

-- the number of bytes of a row's line
abbrev pub size_of : StoredRow → ℕ
size_of row = length row.text + 2

-- the number of bytes of the lines of rows
abbrev pub bytes_of : List StoredRow → ℕ
bytes_of rows = sum_by size_of rows

-- the counts beside stored rows are right, and each row has a number
pub record AreCounted (first bytes : ℕ) (rows : List StoredRow) : Type 0 where
  pub sum : bytes ≡ bytes_of rows
  pub small : bytes < 2 ^ 64
  pub numbers : first + length rows < 2 ^ 64
