-- A row as the text that paints it: from the default style and the first column of a blank row.
use Rattle.std.specs.Prelude.{ℕ, ◌+◌, ◌-◌, ◌==◌, ◌&&◌, List, [], ◌∷◌, ◌++◌, length, map, take, if◌then◌else◌}
use Rattle.std.specs.List.{flat_map}
use Rattle.roam_cells.specs.Glyph.{Glyph, is_right_half, blank, default_style}
use Rattle.roam_cells.specs.Place.{glyph_at}
use Rattle.roam_cells.specs.Same.{same}
use Rattle.roam_cells.specs.declared.styles.Style.{Style}
use Rattle.roam_paint.specs.Painting.{styling}
use Rattle.roam_paint.specs.Sequences.{spelling_of}
use Rattle.roam_scrollback.specs.Wraps.{is_on}
use Rattle.roam_scrollback.specs.declared.wraps.Wrap.{Wrap}
use Rattle.roam_scrollback.specs.declared.wraps.Wrap.TheVariants.{Ends, Full, Early}
use Rattle.roam_text.specs.declared.functions.Function.{Function}
use Rattle.roam_text.specs.declared.functions.Function.TheVariants.{Print}

-- how many columns of a row are in use: up to its last cell that isn't blank
abbrev pub used : List Glyph → ℕ
used [] = 0
used (x ∷ xs) = if ((used xs == 0) && same x blank) then 0 else used xs + 1

-- the functions of a cell after a style; a right half has none
abbrev pub cell_words : Style → Glyph → List Function
cell_words g x = if is_right_half x then [] else styling x.style g ++ map Print x.points

-- the style that is set after it
abbrev pub style_behind : Style → Glyph → Style
style_behind g x = if is_right_half x then g else x.style

-- the functions of one cell after another, and then the default style
abbrev pub row_words : Style → List Glyph → List Function
row_words g [] = styling default_style g
row_words g (x ∷ xs) = cell_words g x ++ row_words (style_behind g x) xs

-- the text of cells
abbrev pub text_of : List Glyph → List ℕ
text_of cells = flat_map spelling_of (row_words default_style cells)

-- cells without a blank at their end
unfoldable pub without_blank : List Glyph → List Glyph
without_blank cells = if same (glyph_at cells (length cells - 1)) blank then take (length cells - 1) cells else cells

-- the cells of a row that are text: not the blanks at its end if it ends, and not the blank left by a wide character
abbrev pub text_cells : Wrap → List Glyph → List Glyph
text_cells Ends cells = take (used cells) cells
text_cells Full cells = cells
text_cells Early cells = without_blank cells

-- the text of a row: that of its cells that are text
unfoldable pub row_text : Wrap → List Glyph → List ℕ
row_text wrap row = text_of (text_cells wrap row)

-- the line of a row: + if autowrap went on from it, else a space, and then its text
abbrev pub line_text : Wrap → List Glyph → List ℕ
line_text wrap row = (if is_on wrap then 0x2B else 0x20) ∷ (row_text wrap row ++ 0x0A ∷ [])
