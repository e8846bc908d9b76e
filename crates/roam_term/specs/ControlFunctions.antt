-- Control functions by name, in the form in which every VT220 has them.
use Rattle.std.specs.Prelude.{ℕ, Bool, true, false, List, [], ◌∷◌, ◌++◌, Option, Some, None}
use Rattle.roam_cells.specs.declared.styles.Style.{Style}
use Rattle.roam_cells.specs.declared.styles.Colour.{Colour}
use Rattle.roam_cells.specs.declared.styles.Colour.TheVariants.{Default, Index, Rgb}
use Rattle.roam_controls.specs.declared.renditions.Layer.{Layer}
use Rattle.roam_controls.specs.declared.renditions.Layer.TheVariants.{Foreground, Background}
use Rattle.roam_text.specs.declared.functions.Function.{Function}
use Rattle.roam_text.specs.declared.functions.Function.TheVariants.{Esc, Csi}

-- a control sequence without intermediate bytes (ECMA-48 5.4)
abbrev pub csi : Option ℕ → List ℕ → ℕ → Function
csi mark params last = Csi mark (record { items = params }) (record { items = [] }) last

-- the cursor is hidden, and shown (DECTCEM, VT220 Programmer Reference)
abbrev pub hide_cursor : Function
hide_cursor = csi (Some 0x3F) (25 ∷ []) 0x6C

abbrev pub show_cursor : Function
show_cursor = csi (Some 0x3F) (25 ∷ []) 0x68

-- all is erased (ED 2, ECMA-48 8.3.39)
abbrev pub erase_all : Function
erase_all = csi None (2 ∷ []) 0x4A

-- the cursor goes to a row and a column, both from 1 (CUP, ECMA-48 8.3.21)
abbrev pub place_cursor : ℕ → ℕ → Function
place_cursor row col = csi None (row ∷ col ∷ []) 0x48

-- all is as at the start (RIS, ECMA-48 8.3.105)
abbrev pub reset_all : Function
reset_all = Esc (record { items = [] }) 0x63

-- a parameter if a flag is set, before others
abbrev pub flag_code : Bool → ℕ → List ℕ → List ℕ
flag_code true code rest = code ∷ rest
flag_code false code rest = rest

-- the parameters of a colour after 38 or 48, before others (the indexed colours of ISO 8613-6); a mixture has a function of its own
abbrev pub colour_codes : ℕ → Colour → List ℕ → List ℕ
colour_codes code Default rest = rest
colour_codes code (Index n) rest = code ∷ 5 ∷ n ∷ rest
colour_codes code (Rgb r g b) rest = rest

-- the parameters that set a style, whatever style it was: 0, each flag in the order of its number, and the colours that aren't the default
abbrev pub style_codes : Style → List ℕ
style_codes s =
    0
    ∷ flag_code s.bold 1
    (flag_code s.faint 2
    (flag_code s.italic 3
    (flag_code s.underline 4
    (flag_code s.blink 5
    (flag_code s.reverse 7
    (flag_code s.conceal 8
    (flag_code s.strike 9
    (colour_codes 38 s.foreground
    (colour_codes 48 s.background [])))))))))

-- a style is set but for its mixtures (SGR, ECMA-48 8.3.117)
abbrev pub set_style : Style → Function
set_style s = csi None (style_codes s) 0x6D

-- a mixture of red, green and blue is set, after 38 or 48 (the direct colours of ISO 8613-6)
abbrev pub mixture : ℕ → ℕ → ℕ → ℕ → Function
mixture code r g b = csi None (code ∷ 2 ∷ r ∷ g ∷ b ∷ []) 0x6D

-- the parameter of a colour's layer
abbrev pub layer_code : Layer → ℕ
layer_code Foreground = 38
layer_code Background = 48

-- the functions that set a colour that is a mixture
abbrev pub set_mixture : ℕ → Colour → List Function
set_mixture code Default = []
set_mixture code (Index n) = []
set_mixture code (Rgb r g b) = mixture code r g b ∷ []

-- a style is set whole, whatever style it was: its mixtures by functions of their own, so that none has more than sixteen parameters
abbrev pub restyle : Style → List Function
restyle s = set_style s ∷ (set_mixture 38 s.foreground ++ set_mixture 48 s.background)

-- a colour if it is no mixture, else the default
abbrev pub plain_colour : Colour → Colour
plain_colour Default = Default
plain_colour (Index n) = Index n
plain_colour (Rgb r g b) = Default

-- a style without its mixtures
abbrev pub plain_style : Style → Style
plain_style s = record s { foreground = plain_colour s.foreground; background = plain_colour s.background }
