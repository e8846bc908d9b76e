-- Worked texts, computed.
use Rattle.std.specs.Prelude.{◌≡◌, ℕ, true, false, List, [], ◌∷◌, refl, replicate}
use Rattle.roam_cells.specs.Glyph.{Glyph, blank, default_style}
use Rattle.roam_screens.specs.Screenshot.{Screenshot, blank_screenshot}
use Rattle.roam_cells.specs.declared.styles.Style.{Style}
use Rattle.roam_paint.specs.Painting.{functions_between, drawn_cell, style_after, text_between, blanking_text}
use Rattle.unicode_width.specs.Width.{char_width}
use Rattle.std.specs.Fmt.{digits}
use Rattle.std.specs.Char.{encode_utf8}

abbrev bold : Style
bold = record default_style { bold = true }

abbrev cell : ℕ → Style → Glyph
cell c s = record { points = c ∷ []; style = s; guarded = false }

abbrev screen : List Glyph → ℕ → ℕ → Screenshot
screen cells row col = record { rows = 2; cols = 8; cells = cells; cursor_row = row; cursor_col = col; visible = true }

abbrev empty : Screenshot
empty = blank_screenshot 2 8

-- ESC c
row-opened : blanking_text ≡ 0x1B ∷ 0x63 ∷ []
row-opened = refl

-- ESC[?25lESC[0mESC[1;1HESC[?25h
row-unchanged : text_between empty empty
    ≡ 0x1B ∷ 0x5B ∷ 0x3F ∷ 0x32 ∷ 0x35 ∷ 0x6C ∷ 0x1B ∷ 0x5B ∷ 0x30 ∷ 0x6D ∷ 0x1B ∷ 0x5B ∷ 0x31 ∷ 0x3B ∷ 0x31 ∷ 0x48
    ∷ 0x1B ∷ 0x5B ∷ 0x3F ∷ 0x32 ∷ 0x35 ∷ 0x68 ∷ []
unfolding text_between functions_between drawn_cell style_after char_width digits encode_utf8
row-unchanged = refl

-- ESC[?25lESC[1;1HESC[0;1maESC[0mbESC[0mESC[1;3HESC[?25h
row-bold-then-plain : text_between empty (screen (cell 0x61 bold ∷ cell 0x62 default_style ∷ replicate 14 blank) 1 3)
    ≡ 0x1B ∷ 0x5B ∷ 0x3F ∷ 0x32 ∷ 0x35 ∷ 0x6C ∷ 0x1B ∷ 0x5B ∷ 0x31 ∷ 0x3B ∷ 0x31 ∷ 0x48 ∷ 0x1B ∷ 0x5B ∷ 0x30 ∷ 0x3B ∷ 0x31 ∷ 0x6D ∷ 0x61
    ∷ 0x1B ∷ 0x5B ∷ 0x30 ∷ 0x6D ∷ 0x62 ∷ 0x1B ∷ 0x5B ∷ 0x30 ∷ 0x6D ∷ 0x1B ∷ 0x5B ∷ 0x31 ∷ 0x3B ∷ 0x33 ∷ 0x48
    ∷ 0x1B ∷ 0x5B ∷ 0x3F ∷ 0x32 ∷ 0x35 ∷ 0x68 ∷ []
unfolding text_between functions_between drawn_cell style_after char_width digits encode_utf8
row-bold-then-plain = refl

-- ESC[?25lESC[1;1HESC[0;1maESC[0mESC[1;2HESC[?25h
row-bold : text_between empty (screen (cell 0x61 bold ∷ replicate 15 blank) 1 2)
    ≡ 0x1B ∷ 0x5B ∷ 0x3F ∷ 0x32 ∷ 0x35 ∷ 0x6C ∷ 0x1B ∷ 0x5B ∷ 0x31 ∷ 0x3B ∷ 0x31 ∷ 0x48 ∷ 0x1B ∷ 0x5B ∷ 0x30 ∷ 0x3B ∷ 0x31 ∷ 0x6D ∷ 0x61
    ∷ 0x1B ∷ 0x5B ∷ 0x30 ∷ 0x6D ∷ 0x1B ∷ 0x5B ∷ 0x31 ∷ 0x3B ∷ 0x32 ∷ 0x48 ∷ 0x1B ∷ 0x5B ∷ 0x3F ∷ 0x32 ∷ 0x35 ∷ 0x68 ∷ []
unfolding text_between functions_between drawn_cell style_after char_width digits encode_utf8
row-bold = refl
