-- The text of a painting part by part, as the code writes it.
use Rattle.std.specs.Prelude.{ℕ, zero, suc, ◌+◌, Bool, true, List, [], ◌∷◌, ◌++◌, decimal, if◌then◌else◌}
use Rattle.std.specs.List.{flat_map}
use Rattle.std.specs.Char.{encode_utf8}
use Rattle.roam_cells.specs.Glyph.{Glyph, default_style}
use Rattle.roam_screens.specs.Screenshot.{Screenshot}
use Rattle.roam_cells.specs.declared.styles.Style.{Style}
use Rattle.roam_cells.specs.declared.styles.Colour.{Colour}
use Rattle.roam_cells.specs.declared.styles.Colour.TheVariants.{Default, Index, Rgb}
use Rattle.roam_cells.specs.Same.{same_style}
use Rattle.roam_term.specs.ControlFunctions.{place_cursor, set_style, restyle, hide_cursor, show_cursor, erase_all}
use Rattle.roam_paint.specs.Sequences.{spelling_of}
use Rattle.roam_term.specs.Ground.{shown_at}
use Rattle.roam_paint.specs.Painting.{differs, is_drawn, goes_on, style_in, style_at}

-- a further parameter, if a flag is set
abbrev pub code_text : Bool → ℕ → List ℕ
code_text on code = if on then 0x3B ∷ decimal code else []

-- a colour's parameters, if it is one of a table
abbrev pub colour_text : ℕ → Colour → List ℕ
colour_text code Default = []
colour_text code (Index n) = code_text true code ++ (code_text true 5 ++ code_text true n)
colour_text code (Rgb r g b) = []

-- a cell at a row and a column, in the run of the place before it or not, in the current style or not
abbrev pub cell_text : Bool → Bool → ℕ → ℕ → Glyph → List ℕ
cell_text stays same r c x =
    (if stays then [] else spelling_of (place_cursor (r + 1) (c + 1)))
    ++ ((if same then [] else flat_map spelling_of (restyle x.style)) ++ flat_map encode_utf8 x.points)

-- the text of a place, with the style that is set before it
unfoldable pub place_text : Screenshot → Screenshot → ℕ → ℕ → Style → List ℕ
place_text old new r c g =
    if is_drawn (differs old new) (shown_at new) r c
    then cell_text (goes_on (differs old new) r c) (same_style (shown_at new r c).style g) r c (shown_at new r c)
    else []

-- the text of the first places of a row
unfoldable pub row_text : Screenshot → Screenshot → ℕ → Style → ℕ → List ℕ
row_text old new r g zero = []
row_text old new r g (suc c) = row_text old new r g c ++ place_text old new r c (style_in (differs old new) (shown_at new) r g c)

-- the style that is set after them
unfoldable pub row_style : Screenshot → Screenshot → ℕ → Style → ℕ → Style
row_style old new r g c = style_in (differs old new) (shown_at new) r g c

-- the text of the first rows
unfoldable pub rows_text : Screenshot → Screenshot → ℕ → List ℕ
rows_text old new zero = []
rows_text old new (suc r) = rows_text old new r ++ row_text old new r (style_at (differs old new) (shown_at new) new.cols r) new.cols

-- the style that is set after them
unfoldable pub rows_style : Screenshot → Screenshot → ℕ → Style
rows_style old new r = style_at (differs old new) (shown_at new) new.cols r

-- the text before the rows, and after them
unfoldable pub opening_text : Bool → List ℕ
opening_text same = flat_map spelling_of (hide_cursor ∷ (if same then [] else erase_all ∷ []))

unfoldable pub closing_text : ℕ → ℕ → Bool → List ℕ
closing_text row col visible =
    flat_map spelling_of (set_style default_style ∷ place_cursor row col ∷ (if visible then show_cursor ∷ [] else []))
