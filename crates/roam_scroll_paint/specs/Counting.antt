-- How many bytes a painter writes at least that leaves nothing out.
use Rattle.std.specs.Prelude.{ℕ, ◌+◌, nat_lt, Bool, if◌then◌else◌}
use Rattle.roam_cells.specs.declared.styles.Style.{Style}
use Rattle.roam_cells.specs.declared.styles.Colour.{Colour}
use Rattle.roam_cells.specs.declared.styles.Colour.TheVariants.{Default, Index, Rgb}

-- the digits of a number, and three of one above 999
abbrev pub digits_of : ℕ → ℕ
digits_of n = if nat_lt n 10 then 1 else (if nat_lt n 100 then 2 else 3)

-- CUP to a row and a column, from 0
abbrev pub move_size : ℕ → ℕ → ℕ
move_size r c = 4 + digits_of (r + 1) + digits_of (c + 1)

-- a flag's parameter behind others
abbrev pub flag_size : Bool → ℕ
flag_size on = if on then 2 else 0

-- the parameters of a colour of the table behind others
abbrev pub colour_size : Colour → ℕ
colour_size Default = 0
colour_size (Index n) = 6 + digits_of n
colour_size (Rgb r g b) = 0

-- the sequence of a mixture
abbrev pub mixture_size : Colour → ℕ
mixture_size Default = 0
mixture_size (Index n) = 0
mixture_size (Rgb r g b) = 10 + digits_of r + digits_of g + digits_of b

-- the flags of a style
unfoldable pub flags_size : Style → ℕ
flags_size s =
    flag_size s.bold + flag_size s.faint + flag_size s.italic + flag_size s.underline + flag_size s.blink + flag_size s.reverse
    + flag_size s.conceal + flag_size s.strike

-- a style that is set whole
unfoldable pub style_size : Style → ℕ
style_size s =
    4 + flags_size s + colour_size s.foreground + colour_size s.background + mixture_size s.foreground + mixture_size s.background
