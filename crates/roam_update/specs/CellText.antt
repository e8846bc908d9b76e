-- The text of a cell, by how it says its style (this project's profile). Numbers are big-endian; a text is a list of bytes.
use Rattle.std.specs.Prelude.{◌≡◌, ℕ, zero, suc, ◌+◌, ◌*◌, ◌/◌, ◌%◌, Bool, true, false, ◌&&◌, ◌||◌, ◌==◌, nat_le, nat_lt, List, [], ◌∷◌, ◌++◌, length, drop, slice_index, Option, Some, None, option_and_then, if◌then◌else◌}
use Rattle.std.specs.List.{flat_map}
use Rattle.byteorder.specs.Endian.{big_bytes, big_number}
use Rattle.roam_cells.specs.Glyph.{Glyph, IsShown, is_text}
use Rattle.roam_screens.specs.Narrow.{is_plain_colour, is_plain_style}
use Rattle.roam_cells.specs.declared.styles.Style.{Style}
use Rattle.roam_cells.specs.declared.styles.Colour.{Colour}
use Rattle.roam_cells.specs.declared.styles.Colour.TheVariants.{Default, Index, Rgb}
use Rattle.roam_update.specs.Styles.{Form, Whole, Numbered, number_in, used_after, style_in}

-- a cell that a screen may show: it is what some cell shows, and has no guard
pub record IsPlain (g : Glyph) : Type 0 where
  pub shown : IsShown g
  pub unguarded : g.guarded ≡ false

-- a yes or no as a number, 1 or 0
abbrev pub bit : Bool → ℕ
bit b = if b then 1 else 0

-- the eight flags of a style in one byte, bold the lowest bit
abbrev pub flags : Style → ℕ
flags s =
    bit s.bold + 2 * bit s.faint + 4 * bit s.italic + 8 * bit s.underline + 16 * bit s.blink + 32 * bit s.reverse
    + 64 * bit s.conceal + 128 * bit s.strike

-- a colour's first byte
abbrev pub colour_kind : Colour → ℕ
colour_kind Default = 0
colour_kind (Index n) = 1
colour_kind (Rgb r g b) = 0

-- a colour's second byte: its index, or 0
abbrev pub colour_index : Colour → ℕ
colour_index Default = 0
colour_index (Index n) = n
colour_index (Rgb r g b) = 0

-- whether a colour has two bytes: a mixture has none
abbrev pub is_short_colour : Colour → Bool
is_short_colour c = is_plain_colour c

-- whether a style has two bytes for each colour
abbrev pub is_short_style : Style → Bool
is_short_style s = is_plain_style s

-- code points of four bytes each
abbrev pub points_text : List ℕ → List ℕ
points_text points = flat_map (big_bytes 4) points

-- the text of a cell's style: in full the flags and two bytes for each colour, else its number in three bytes
abbrev pub style_text : Form → Style → List ℕ
style_text Whole s =
    flags s ∷ colour_kind s.foreground ∷ colour_index s.foreground ∷ colour_kind s.background ∷ colour_index s.background ∷ []
style_text (Numbered table used) s = big_bytes 3 (number_in table s)

-- the text of a cell: the number of its code points, its style, the code points
abbrev pub cell_text : Form → Glyph → List ℕ
cell_text f g = length g.points ∷ (style_text f g.style ++ points_text g.points)

-- the texts of cells, one after the other
abbrev pub cells_text : Form → List Glyph → List ℕ
cells_text f cells = flat_map (cell_text f) cells

-- the value of the front of a text, the rest of it, and the form of styles there
pub record Front (A : Type 0) : Type 0 where
  pub value : A
  pub rest : List ℕ
  pub form : Form

-- a Unicode scalar value
abbrev pub is_scalar : ℕ → Bool
is_scalar c = nat_lt c 0xD800 || (nat_le 0xE000 c && nat_le c 0x10FFFF)

-- the code point at the front of a text
abbrev pub point_read : List ℕ → Option ℕ
point_read text = if nat_le 4 (length text) && is_scalar (big_number 4 text) then Some (big_number 4 text) else None

-- n code points at the front of a text
abbrev pub points_read : ℕ → List ℕ → Option (List ℕ)
points_read zero text = Some []
points_read (suc n) text = option_and_then (λ c. option_and_then (λ cs. Some (c ∷ cs)) (points_read n (drop 4 text))) (point_read text)

-- the colour of two bytes
abbrev pub colour_read : ℕ → ℕ → Option Colour
colour_read kind index = if (kind == 0) && (index == 0) then Some Default else if kind == 1 then Some (Index index) else None

-- the style of a byte of flags and two colours
abbrev pub style_of : ℕ → Colour → Colour → Style
style_of f fore back =
    record {
      bold = f % 2 == 1;
      faint = f / 2 % 2 == 1;
      italic = f / 4 % 2 == 1;
      underline = f / 8 % 2 == 1;
      blink = f / 16 % 2 == 1;
      reverse = f / 32 % 2 == 1;
      conceal = f / 64 % 2 == 1;
      strike = f / 128 % 2 == 1;
      foreground = fore;
      background = back;
    }

-- the style in the second to the sixth byte
abbrev pub whole_style : List ℕ → Option Style
whole_style text =
    option_and_then
    (λ fore.
    option_and_then (λ back. Some (style_of (slice_index text 1) fore back)) (colour_read (slice_index text 4) (slice_index text 5)))
    (colour_read (slice_index text 2) (slice_index text 3))

-- the number of a style in the second to the fourth byte
abbrev pub number_read : List ℕ → ℕ
number_read text = big_number 3 (drop 1 text)

-- the style of the cell at the front of a text
abbrev pub style_read : Form → List ℕ → Option Style
style_read Whole text = whole_style text
style_read (Numbered table used) text = style_in table used (number_read text)

-- how cells say their styles behind the cell at the front of a text
abbrev pub form_after : Form → List ℕ → Form
form_after Whole text = Whole
form_after (Numbered table used) text = Numbered table (used_after used (number_read text))

-- the number of bytes before the code points
abbrev pub head_size : Form → ℕ
head_size Whole = 6
head_size (Numbered table used) = 4

-- whether a colour is one that there is: bytes say no other
abbrev pub is_colour : Colour → Bool
is_colour Default = true
is_colour (Index n) = nat_le n 255
is_colour (Rgb r g b) = nat_le r 255 && (nat_le g 255 && nat_le b 255)

-- whether a style is in such colours
abbrev pub is_style : Style → Bool
is_style s = is_colour s.foreground && is_colour s.background

-- the unguarded cell of some code points in a style
abbrev pub glyph_of : List ℕ → Style → Option Glyph
glyph_of points style = if is_style style && is_text points then Some (record { points = points; style = style; guarded = false }) else None

-- the cell at the front of a text
abbrev pub glyph_read : Form → List ℕ → Option Glyph
glyph_read f text =
    if nat_le (head_size f) (length text) && nat_le (slice_index text 0) 3 then
    option_and_then
    (λ style. option_and_then (λ points. glyph_of points style) (points_read (slice_index text 0) (drop (head_size f) text)))
    (style_read f text)
    else None

-- how many bytes the cell at the front of a text has
abbrev pub cell_size : Form → List ℕ → ℕ
cell_size f text = head_size f + 4 * slice_index text 0

-- the cell at the front of a text, and the rest of it
abbrev pub cell_read : Form → List ℕ → Option (Front Glyph)
cell_read f text =
    option_and_then (λ g. Some (record { value = g; rest = drop (cell_size f text) text; form = form_after f text })) (glyph_read f text)

-- n cells at the front of a text, and the rest of it
unfoldable pub cells_read : Form → ℕ → List ℕ → Option (Front (List Glyph))
cells_read f zero text = Some (record { value = []; rest = text; form = f })
cells_read f (suc n) text =
    option_and_then
    (λ c. option_and_then (λ cs. Some (record { value = c.value ∷ cs.value; rest = cs.rest; form = cs.form })) (cells_read c.form n c.rest))
    (cell_read f text)
