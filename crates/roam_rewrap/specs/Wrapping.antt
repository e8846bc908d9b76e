-- Lines at a width: a line goes on in the next row as by autowrap, so that a wide cell is never cut (DECAWM, VT220 Programmer Reference).
use Rattle.std.specs.Prelude.{◌≡◌, ◌≤◌, ◌⊎◌, ⊤, ℕ, zero, suc, ◌+◌, ◌-◌, nat_lt, true, false, List, [], ◌∷◌, ◌++◌, length, take, drop, if◌then◌else◌}
use Rattle.roam_cells.specs.Glyph.{Glyph, is_wide}
use Rattle.roam_cells.specs.Place.{glyph_at}
use Rattle.roam_rewrap.specs.Lines.{TextRow, lines_of}

-- the number of cells in the first row of a line that is longer than a row: a wide cell that the last column would cut goes to the next
unfoldable pub fitting : ℕ → List Glyph → ℕ
fitting cols line = if is_wide (glyph_at line (cols - 1)) then cols - 1 else cols

-- the rows of a line, of which there are at most fuel + 1
abbrev pub rows_within : ℕ → ℕ → List Glyph → List TextRow
rows_within zero cols line = record { goes_on = false; cells = line } ∷ []
rows_within (suc fuel) cols line =
    if nat_lt cols (length line)
    then record { goes_on = true; cells = take (fitting cols line) line } ∷ rows_within fuel cols (drop (fitting cols line) line)
    else record { goes_on = false; cells = line } ∷ []

-- the rows of a line
unfoldable pub rows_of_line : ℕ → List Glyph → List TextRow
rows_of_line cols line = rows_within (length line) cols line

-- the rows of lines
abbrev pub rows_of_lines : ℕ → List (List Glyph) → List TextRow
rows_of_lines cols [] = []
rows_of_lines cols (line ∷ lines) = rows_of_line cols line ++ rows_of_lines cols lines

-- rows at another width
unfoldable pub rewrapped : ℕ → List TextRow → List TextRow
rewrapped cols rows = rows_of_lines cols (lines_of rows)

-- ---- laws

-- the lines stay as they are: no cell is lost or doubled, and none changes its line
abbrev pub LinesStay : Type 0
LinesStay = (cols : ℕ) (rows : List TextRow) → lines_of (rewrapped cols rows) ≡ lines_of rows

-- whether the first of some rows begins with a wide cell
abbrev pub BeginsWide : List TextRow → Type 0
BeginsWide [] = ⊥
BeginsWide (row ∷ rows) = is_wide (glyph_at row.cells 0) ≡ true

-- a row whose line goes on is full: it has a cell for each column, or for all but one if the next row begins with a wide cell
abbrev pub IsFull : ℕ → TextRow → List TextRow → Type 0
IsFull cols row rows = (length row.cells ≡ cols) ⊎ ((length row.cells + 1 ≡ cols) × BeginsWide rows)

-- no row is wider than so many columns, and each row whose line goes on is full
abbrev pub AreFitting : ℕ → List TextRow → Type 0
AreFitting cols [] = ⊤
AreFitting cols (row ∷ rows) = (length row.cells ≤ cols) × (row.goes_on ≡ true → IsFull cols row rows) × AreFitting cols rows

-- at 2 columns or more
abbrev pub RowsFit : Type 0
RowsFit = (cols : ℕ) (rows : List TextRow) → 2 ≤ cols → AreFitting cols (rewrapped cols rows)
