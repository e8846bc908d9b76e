-- The aspects that SGR sets of an ink (ECMA-48, 8.3.117), without the rest being read: it clears some digits of its number and puts others
-- there.
use Rattle.std.specs.Prelude.{ℕ, ◌*◌, Bool, true, false, nat_le}
use Rattle.roam_cells.specs.Glyph.{default_style}
use Rattle.roam_cells.specs.Inks.{digit, number_of}
use Rattle.roam_cells.specs.declared.styles.Style.{Style}
use Rattle.roam_cells.specs.declared.styles.Colour.{Colour}
use Rattle.roam_cells.specs.declared.styles.Colour.TheVariants.{Default, Index, Rgb}

-- the flags of a style
pub data Flag : Type 0 where
  Bold : Flag
  Faint : Flag
  Italic : Flag
  Underline : Flag
  Blink : Flag
  Reverse : Flag
  Conceal : Flag
  Strike : Flag

-- nothing, the style that a terminal starts with, a flag that is on or off, two that are off, or a colour
pub data Aspect : Type 0 where
  Unchanged : Aspect
  Plain : Aspect
  Flagged : Flag → Bool → Aspect
  NeitherBoldNorFaint : Aspect
  Front : Colour → Aspect
  Back : Colour → Aspect

-- a style with a flag
abbrev pub flagged : Flag → Bool → Style → Style
flagged Bold on s = record s { bold = on }
flagged Faint on s = record s { faint = on }
flagged Italic on s = record s { italic = on }
flagged Underline on s = record s { underline = on }
flagged Blink on s = record s { blink = on }
flagged Reverse on s = record s { reverse = on }
flagged Conceal on s = record s { conceal = on }
flagged Strike on s = record s { strike = on }

-- the style that shows it
abbrev pub showing : Aspect → Style → Style
showing Unchanged s = s
showing Plain s = default_style
showing (Flagged flag on) s = flagged flag on s
showing NeitherBoldNorFaint s = record s { bold = false; faint = false }
showing (Front colour) s = record s { foreground = colour }
showing (Back colour) s = record s { background = colour }

-- the place of a flag in the number of an ink
abbrev pub place_of : Flag → ℕ
place_of Bold = 2
place_of Faint = 4
place_of Italic = 8
place_of Underline = 16
place_of Blink = 32
place_of Reverse = 64
place_of Conceal = 128
place_of Strike = 256

-- the digits that are cleared
abbrev pub mask_of : Aspect → ℕ
mask_of Unchanged = 0
mask_of Plain = 576460752303423486
mask_of (Flagged flag on) = place_of flag
mask_of NeitherBoldNorFaint = 6
mask_of (Front colour) = 17179868672
mask_of (Back colour) = 576460735123554304

-- the digits that are put there
abbrev pub digits_of : Aspect → ℕ
digits_of Unchanged = 0
digits_of Plain = 0
digits_of (Flagged flag on) = place_of flag * digit on
digits_of NeitherBoldNorFaint = 0
digits_of (Front colour) = 512 * number_of colour
digits_of (Back colour) = 17179869184 * number_of colour

-- a colour is the terminal's own or one of 256
abbrev pub is_listed : Colour → Bool
is_listed Default = true
is_listed (Index n) = nat_le n 255
is_listed (Rgb r g b) = false

-- and so is that of an aspect
abbrev pub is_aspect : Aspect → Bool
is_aspect (Front colour) = is_listed colour
is_aspect (Back colour) = is_listed colour
is_aspect e = true
