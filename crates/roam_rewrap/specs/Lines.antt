-- Rows of text, and their logical lines: rows are joined if autowrap went on (DECAWM, VT220 Programmer Reference).
use Rattle.std.specs.Prelude.{Bool, List, [], ◌∷◌, ◌++◌, if◌then◌else◌}
use Rattle.roam_cells.specs.Glyph.{Glyph}

-- a row's cells, as far as they are text, and whether autowrap went on from it
pub record TextRow : Type 0 where
  pub goes_on : Bool
  pub cells : List Glyph

-- the lines of rows, after the cells of a line that has begun
abbrev pub lines_from : List Glyph → List TextRow → List (List Glyph)
lines_from [] [] = []
lines_from (x ∷ xs) [] = (x ∷ xs) ∷ []
lines_from begun (row ∷ rows) =
    if row.goes_on then lines_from (begun ++ row.cells) rows
    else (begun ++ row.cells) ∷ lines_from [] rows

-- the lines of rows
abbrev pub lines_of : List TextRow → List (List Glyph)
lines_of rows = lines_from [] rows
