-- Worked rows: a right half gives no code point; the mixtures, rows and cursors of version 1.
use Rattle.std.proofs.Common.{◌≡◌, true, false, [], ◌∷◌, map, refl}
use Rattle.roam_cells.specs.Glyph.{Glyph, blank, right_of, default_style}
use Rattle.roam_cells.specs.declared.styles.Colour.TheVariants.{Default, Index, Rgb}
use Rattle.roam_screens.specs.Narrow.{narrow_colour, narrow_row, row_shown, is_row_out, is_col_out}
use Rattle.roam_screens.specs.Screenshot.{row_text}

abbrev wide : Glyph
wide = record { points = 0x4E2D ∷ []; style = default_style; guarded = false }

-- the second row of 2 by 3
second_row : row_text 3 (blank ∷ blank ∷ blank ∷ wide ∷ right_of wide ∷ blank ∷ []) 1 ≡ 0x4E2D ∷ 32 ∷ []
second_row = refl

-- orange, black and white in the table of 256, and colours that are no mixtures
colours : map narrow_colour (Rgb 255 128 0 ∷ Rgb 0 0 0 ∷ Rgb 255 255 255 ∷ Rgb 10 20 30 ∷ Index 7 ∷ Default ∷ [])
    ≡ Index 214 ∷ Index 16 ∷ Index 231 ∷ Index 16 ∷ Index 7 ∷ Default ∷ []
colours = refl

-- of 200 rows, the new rows of a cursor in rows 99, 100, 150 and 200
cursors : map (narrow_row 200) (99 ∷ 100 ∷ 150 ∷ 200 ∷ []) ≡ 99 ∷ 99 ∷ 99 ∷ 100 ∷ []
cursors = refl

-- and which of them are left out
rows_out : map (is_row_out 200) (99 ∷ 100 ∷ 150 ∷ 200 ∷ []) ≡ false ∷ true ∷ true ∷ false ∷ []
rows_out = refl

columns_out : map is_col_out (250 ∷ 251 ∷ []) ≡ false ∷ true ∷ []
columns_out = refl

-- the rows, from 0, that rows 98 and 99 show of 200 and of 24
rows_shown : map (row_shown 200) (98 ∷ 99 ∷ []) ≡ 98 ∷ 199 ∷ []
rows_shown = refl

last_of_few : map (row_shown 24) (0 ∷ 23 ∷ []) ≡ 0 ∷ 23 ∷ []
last_of_few = refl
