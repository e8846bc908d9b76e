-- The text of a screen cell by cell, which is read without knowing how wide a character is (this project's profile).
use Rattle.std.specs.Prelude.{ℕ, zero, suc, Bool, true, false, ◌==◌, List, [], ◌∷◌, ◌++◌, length, codes, decimal, if◌then◌else◌}
use Rattle.std.specs.Char.{encode_utf8}
use Rattle.std.specs.List.{flat_map, range_with_len}
use Rattle.roam_cells.specs.Glyph.{Glyph, default_style}
use Rattle.roam_cells.specs.Place.{glyph_at, row_of}
use Rattle.roam_cells.specs.Same.{same_style}
use Rattle.roam_cells.specs.declared.styles.Style.{Style}
use Rattle.roam_paint.specs.Sequences.{spelling_of}
use Rattle.roam_display_records.specs.declared.looks.Looking.{Looking}
use Rattle.roam_display_records.specs.declared.looks.Looking.TheVariants.{Points, Styled}
use Rattle.roam_screens.specs.Screenshot.{Screenshot}
use Rattle.roam_term.specs.ControlFunctions.{restyle}

-- between two cells of a row comes IS1 (ECMA-48 8.3.63), which no cell has
abbrev pub between_cells : ℕ
between_cells = 0x1F

-- the style before a cell of a row: that of the cell before it, and the default before the first
abbrev pub style_before : List Glyph → ℕ → Style
style_before row zero = default_style
style_before row (suc c) = (glyph_at row c).style

-- SGR (ECMA-48 8.3.117) that sets a cell's style, if it is another one than before
abbrev pub styling : Looking → Style → Style → List ℕ
styling Points before style = []
styling Styled before style = if same_style style before then [] else flat_map spelling_of (restyle style)

-- one cell of a row: a right half has no code points
abbrev pub cell_text : Looking → List Glyph → ℕ → List ℕ
cell_text looking row c =
    (if c == 0 then [] else between_cells ∷ [])
    ++ (styling looking (style_before row c) (glyph_at row c).style ++ flat_map encode_utf8 (glyph_at row c).points)

-- the first cells of a row
abbrev pub cells_text : Looking → List Glyph → ℕ → List ℕ
cells_text looking row n = flat_map (cell_text looking row) (range_with_len 0 n)

-- a row, a line
abbrev pub row_line : Looking → List Glyph → List ℕ
row_line looking row = cells_text looking row (length row) ++ 0x0A ∷ []

abbrev pub visible_word : Bool → List ℕ
visible_word true = codes "visible"
visible_word false = codes "hidden"

-- the first line: the size, the cursor's row and column from 1, and whether it is visible
abbrev pub head_line : Screenshot → List ℕ
head_line s =
    decimal s.rows ++ 0x20 ∷ decimal s.cols ++ 0x20 ∷ decimal s.cursor_row ++ 0x20 ∷ decimal s.cursor_col ++ 0x20
    ∷ visible_word s.visible ++ 0x0A ∷ []

-- the first rows
abbrev pub rows_text : Looking → Screenshot → ℕ → List ℕ
rows_text looking s n = flat_map (λ (r : ℕ). row_line looking (row_of s.cols s.cells r)) (range_with_len 0 n)

-- a screen
abbrev pub screen_text : Looking → Screenshot → List ℕ
screen_text looking s = head_line s ++ rows_text looking s s.rows
