-- Worked texts and rows, computed.
use Rattle.std.specs.Prelude.{◌≡◌, ℕ, true, false, List, [], ◌∷◌, replicate, Some, None, refl}
use Rattle.std.specs.List.{flat_map}
use Rattle.std.specs.Char.{encode_utf8}
use Rattle.std.specs.Fmt.{digits}
use Rattle.unicode_width.specs.Width.{char_width}
use Rattle.roam_cells.specs.Glyph.{Glyph, blank, default_style}
use Rattle.roam_cells.specs.declared.styles.Style.{Style}
use Rattle.roam_cells.specs.declared.styles.Colour.TheVariants.{Index, Rgb}
use Rattle.roam_screens.specs.Screenshot.{Screenshot}
use Rattle.roam_text.specs.declared.functions.Function.TheVariants.{Print}
use Rattle.roam_term.specs.ControlFunctions.{csi, place_cursor}
use Rattle.roam_term.specs.Ground.{shown_at}
use Rattle.roam_paint.specs.Painting.{style_after}
use Rattle.roam_scroll_paint.specs.declared.bands.Band.{Band}
use Rattle.roam_scroll_paint.specs.Bands.{moved_source, moves_band}
use Rattle.roam_scroll_paint.specs.Doubts.{is_doubtful_text, is_placed_first}
use Rattle.roam_scroll_paint.specs.Sequences.{text_of}
use Rattle.roam_scroll_paint.specs.Styles.{change_codes, adds, styled_from}
use Rattle.roam_scroll_paint.specs.Rows.{written_cell, written_row, doubt_after, doubt_in, erase_line, erasing_from, row_functions}
use Rattle.roam_scroll_paint.specs.Painting.{settling}

-- ---- bands

abbrev all_up : Band
all_up = record { top = 0; bottom = 24; count = 1; up = true }

abbrev two_down : Band
two_down = record { top = 1; bottom = 5; count = 2; up = false }

-- ESC[1;24r ESC[24H LF ESC[r
row-all_up : flat_map text_of (moves_band all_up)
    ≡ 0x1B ∷ 0x5B ∷ 0x31 ∷ 0x3B ∷ 0x32 ∷ 0x34 ∷ 0x72 ∷ 0x1B ∷ 0x5B ∷ 0x32 ∷ 0x34 ∷ 0x48 ∷ 0x0A ∷ 0x1B ∷ 0x5B ∷ 0x72 ∷ []
unfolding moves_band digits
row-all_up = refl

-- ESC[2;5r ESC[2H ESC M ESC M ESC[r
row-two_down : flat_map text_of (moves_band two_down)
    ≡ 0x1B ∷ 0x5B ∷ 0x32 ∷ 0x3B ∷ 0x35 ∷ 0x72 ∷ 0x1B ∷ 0x5B ∷ 0x32 ∷ 0x48 ∷ 0x1B ∷ 0x4D ∷ 0x1B ∷ 0x4D ∷ 0x1B ∷ 0x5B ∷ 0x72 ∷ []
unfolding moves_band digits
row-two_down = refl

-- the last row comes in blank, the others show those below
row-last_of_all : moved_source all_up 23 ≡ None
row-last_of_all = refl

row-first_of_all : moved_source all_up 0 ≡ Some 1
row-first_of_all = refl

-- the rows outside a band stay, its first two come in blank, and the third shows its first
row-outside : moved_source two_down 0 ≡ Some 0
row-outside = refl

row-blank : moved_source two_down 2 ≡ None
row-blank = refl

row-third : moved_source two_down 3 ≡ Some 1
row-third = refl

-- ---- styles

abbrev bold : Style
bold = record default_style { bold = true }

abbrev bold_red : Style
bold_red = record bold { foreground = Index 9 }

abbrev red_on_blue : Style
red_on_blue = record default_style { foreground = Index 9; background = Index 4 }

abbrev on_blue : Style
on_blue = record default_style { background = Index 4 }

-- ESC[1m
row-bold : flat_map text_of (styled_from default_style bold) ≡ 0x1B ∷ 0x5B ∷ 0x31 ∷ 0x6D ∷ []
unfolding change_codes adds digits
row-bold = refl

-- ESC[38;5;9m
row-red : flat_map text_of (styled_from bold bold_red) ≡ 0x1B ∷ 0x5B ∷ 0x33 ∷ 0x38 ∷ 0x3B ∷ 0x35 ∷ 0x3B ∷ 0x39 ∷ 0x6D ∷ []
unfolding change_codes adds digits
row-red = refl

-- a flag ends: ESC[0m
row-plain : flat_map text_of (styled_from bold default_style) ≡ 0x1B ∷ 0x5B ∷ 0x30 ∷ 0x6D ∷ []
unfolding change_codes adds digits
row-plain = refl

-- a colour ends beside one that stays: ESC[39m
row-on_blue : flat_map text_of (styled_from red_on_blue on_blue) ≡ 0x1B ∷ 0x5B ∷ 0x33 ∷ 0x39 ∷ 0x6D ∷ []
unfolding change_codes adds digits
row-on_blue = refl

-- the only colour ends: ESC[0m
row-no_colour : flat_map text_of (styled_from on_blue default_style) ≡ 0x1B ∷ 0x5B ∷ 0x30 ∷ 0x6D ∷ []
unfolding change_codes adds digits
row-no_colour = refl

-- a mixture is a part of what changes: ESC[1;38;2;1;2;3m
row-mixture : flat_map text_of (styled_from default_style (record bold { foreground = Rgb 1 2 3 }))
    ≡ 0x1B ∷ 0x5B ∷ 0x31 ∷ 0x3B ∷ 0x33 ∷ 0x38 ∷ 0x3B ∷ 0x32 ∷ 0x3B ∷ 0x31 ∷ 0x3B ∷ 0x32 ∷ 0x3B ∷ 0x33 ∷ 0x6D ∷ []
unfolding change_codes adds digits
row-mixture = refl

-- the style that is set isn't set
row-nothing : styled_from bold bold ≡ []
row-nothing = refl

-- ---- rows

abbrev cell : ℕ → Style → Glyph
cell c s = record { points = c ∷ []; style = s; guarded = false }

abbrev screen : List Glyph → Screenshot
screen cells = record { rows = 2; cols = 8; cells = cells; cursor_row = 1; cursor_col = 1; visible = true }

abbrev abc : Screenshot
abc = screen (cell 0x61 default_style ∷ cell 0x62 default_style ∷ cell 0x63 default_style ∷ replicate 13 blank)

-- a and c are marked: ESC[1Ha ESC[1;3Hc
row-two_runs : flat_map text_of (row_functions (true ∷ false ∷ true ∷ []) (shown_at abc) 8 0 8 default_style)
    ≡ 0x1B ∷ 0x5B ∷ 0x31 ∷ 0x48 ∷ 0x61 ∷ 0x1B ∷ 0x5B ∷ 0x31 ∷ 0x3B ∷ 0x33 ∷ 0x48 ∷ 0x63 ∷ []
unfolding row_functions written_row written_cell erasing_from style_after doubt_in doubt_after is_doubtful_text change_codes adds char_width digits encode_utf8
row-two_runs = refl

-- the gap between them too, and the end is erased at the cursor: ESC[1Habc ESC[K
row-gap : flat_map text_of (row_functions (true ∷ true ∷ true ∷ []) (shown_at abc) 8 0 3 default_style)
    ≡ 0x1B ∷ 0x5B ∷ 0x31 ∷ 0x48 ∷ 0x61 ∷ 0x62 ∷ 0x63 ∷ 0x1B ∷ 0x5B ∷ 0x4B ∷ []
unfolding row_functions written_row written_cell erasing_from style_after doubt_in doubt_after is_doubtful_text change_codes adds char_width digits encode_utf8
row-gap = refl

-- the end alone is erased, in the default style: ESC[1;4H ESC[0m ESC[K
row-end : flat_map text_of (row_functions [] (shown_at abc) 8 0 3 bold)
    ≡ 0x1B ∷ 0x5B ∷ 0x31 ∷ 0x3B ∷ 0x34 ∷ 0x48 ∷ 0x1B ∷ 0x5B ∷ 0x30 ∷ 0x6D ∷ 0x1B ∷ 0x5B ∷ 0x4B ∷ []
unfolding row_functions written_row written_cell erasing_from style_after doubt_in doubt_after is_doubtful_text change_codes adds char_width digits encode_utf8
row-end = refl

-- ---- cells whose width terminals disagree on

abbrev accented : Screenshot
accented = screen (record { points = 0x65 ∷ 0x301 ∷ []; style = default_style; guarded = false } ∷ cell 0x66 default_style ∷ replicate 14 blank)

row-joined : is_doubtful_text (0x65 ∷ 0x301 ∷ []) ≡ true
unfolding is_doubtful_text
row-joined = refl

row-modifier : is_doubtful_text (0x1F3FD ∷ []) ≡ true
unfolding is_doubtful_text
row-modifier = refl

row-regional : is_doubtful_text (0x1F1E9 ∷ []) ≡ true
unfolding is_doubtful_text
row-regional = refl

row-letter : is_doubtful_text (0x65 ∷ []) ≡ false
unfolding is_doubtful_text
row-letter = refl

-- behind e with an accent CUP comes: ESC[1He ESC[1;2Hf
row-accent : flat_map text_of (row_functions (true ∷ true ∷ []) (shown_at accented) 8 0 8 default_style)
    ≡ 0x1B ∷ 0x5B ∷ 0x31 ∷ 0x48 ∷ 0x65 ∷ 0xCC ∷ 0x81 ∷ 0x1B ∷ 0x5B ∷ 0x31 ∷ 0x3B ∷ 0x32 ∷ 0x48 ∷ 0x66 ∷ []
unfolding row_functions written_row written_cell erasing_from style_after doubt_in doubt_after is_doubtful_text change_codes adds char_width digits encode_utf8
row-accent = refl

-- and before the end of the row is erased: ESC[1He ESC[1;2H ESC[K
row-accent_end : flat_map text_of (row_functions (true ∷ []) (shown_at accented) 8 0 1 default_style)
    ≡ 0x1B ∷ 0x5B ∷ 0x31 ∷ 0x48 ∷ 0x65 ∷ 0xCC ∷ 0x81 ∷ 0x1B ∷ 0x5B ∷ 0x31 ∷ 0x3B ∷ 0x32 ∷ 0x48 ∷ 0x1B ∷ 0x5B ∷ 0x4B ∷ []
unfolding row_functions written_row written_cell erasing_from style_after doubt_in doubt_after is_doubtful_text change_codes adds char_width digits encode_utf8
row-accent_end = refl

-- SGR may come before CUP, a letter and EL may not
row-light : is_placed_first (csi None (1 ∷ []) 0x6D ∷ place_cursor 1 2 ∷ Print 0x66 ∷ []) ≡ true
unfolding is_placed_first
row-light = refl

row-no_letter : is_placed_first (Print 0x66 ∷ place_cursor 1 2 ∷ []) ≡ false
unfolding is_placed_first char_width
row-no_letter = refl

row-no_erasure : is_placed_first (erase_line ∷ []) ≡ false
unfolding is_placed_first
row-no_erasure = refl

-- ---- behind the rows

-- behind the rows the default style, if another is set, and the cursor's place: ESC[0m ESC[1H
row-settling : flat_map text_of (settling abc bold) ≡ 0x1B ∷ 0x5B ∷ 0x30 ∷ 0x6D ∷ 0x1B ∷ 0x5B ∷ 0x31 ∷ 0x48 ∷ []
unfolding change_codes adds digits
row-settling = refl
