-- SGR: the effect of its parameters on a style (ECMA-48, section 8.3.117; the indexed colours of ISO 8613-6).
use Rattle.std.specs.Prelude.{ℕ, ◌-◌, ◌==◌, ◌&&◌, nat_le, true, false, if◌then◌else◌, List, fold}
use Rattle.roam_cells.specs.Glyph.{default_style}
use Rattle.roam_cells.specs.declared.styles.Style.{Style}
use Rattle.roam_cells.specs.declared.styles.Colour.{Colour}
use Rattle.roam_cells.specs.declared.styles.Colour.TheVariants.{Default, Index, Rgb}
use Rattle.roam_controls.specs.declared.renditions.Layer.{Layer}
use Rattle.roam_controls.specs.declared.renditions.Layer.TheVariants.{Foreground, Background}
use Rattle.roam_controls.specs.declared.renditions.Awaited.{Awaited}
use Rattle.roam_controls.specs.declared.renditions.Awaited.TheVariants.{Aspect, ColourSpace, ColourIndex, Red, Green, Blue, Nothing}

-- a style while SGR's parameters are read, and the meaning of the next one
pub record Rendition : Type 0 where
  pub style : Style
  pub awaited : Awaited

abbrev pub read_so_far : Style → Awaited → Rendition
read_so_far style awaited = record { style = style; awaited = awaited }

abbrev pub coloured_style : Layer → Colour → Style → Style
coloured_style Foreground colour g = record g { foreground = colour }
coloured_style Background colour g = record g { background = colour }

-- 30 to 49 and 90 to 107: colours by number, and the defaults; others change nothing
abbrev pub with_colour : ℕ → Style → Style
with_colour p g =
    if p == 39 then record g { foreground = Default }
    else if p == 49 then record g { background = Default }
    else if (nat_le 30 p && nat_le p 37) then record g { foreground = Index (p - 30) }
    else if (nat_le 40 p && nat_le p 47) then record g { background = Index (p - 40) }
    else if (nat_le 90 p && nat_le p 97) then record g { foreground = Index (p - 82) }
    else if (nat_le 100 p && nat_le p 107) then record g { background = Index (p - 92) }
    else g

-- 21 to 29: the end of an aspect, except for 21, which underlines twice and is taken as underlining (this project's profile)
abbrev pub without_aspect : ℕ → Style → Style
without_aspect p g =
    if p == 21 then record g { underline = true }
    else if p == 22 then record g { bold = false; faint = false }
    else if p == 23 then record g { italic = false }
    else if p == 24 then record g { underline = false }
    else if p == 25 then record g { blink = false }
    else if p == 27 then record g { reverse = false }
    else if p == 28 then record g { conceal = false }
    else if p == 29 then record g { strike = false }
    else with_colour p g

-- an aspect with no numbers of its own
abbrev pub with_aspect : ℕ → Style → Style
with_aspect p g =
    if p == 0 then default_style
    else if p == 1 then record g { bold = true }
    else if p == 2 then record g { faint = true }
    else if p == 3 then record g { italic = true }
    else if p == 4 then record g { underline = true }
    else if p == 5 then record g { blink = true }
    else if p == 7 then record g { reverse = true }
    else if p == 8 then record g { conceal = true }
    else if p == 9 then record g { strike = true }
    else without_aspect p g

-- a mixture of three numbers; if one is above 255 nothing changes (this project's profile)
abbrev pub mixed_style : Layer → ℕ → ℕ → ℕ → Style → Style
mixed_style layer red green blue g =
    if nat_le red 255 && (nat_le green 255 && nat_le blue 255) then coloured_style layer (Rgb red green blue) g else g

-- One more parameter: an aspect, or a number that 38 or 48 awaits. That is 5 and an index up to 255, or 2 and the numbers of red, green and
-- blue. Otherwise the rest of the sequence has no effect (this project's profile).
abbrev pub read_as : Awaited → Rendition → ℕ → Rendition
read_as Aspect r p =
    if p == 38 then record r { awaited = ColourSpace Foreground }
    else if p == 48 then record r { awaited = ColourSpace Background }
    else record r { style = with_aspect p r.style }
read_as (ColourSpace layer) r p =
    if p == 5 then record r { awaited = ColourIndex layer }
    else if p == 2 then record r { awaited = Red layer }
    else record r { awaited = Nothing }
read_as (ColourIndex layer) r p =
    if nat_le p 255 then record { style = coloured_style layer (Index p) r.style; awaited = Aspect }
    else record r { awaited = Aspect }
read_as (Red layer) r p = record r { awaited = Green layer p }
read_as (Green layer red) r p = record r { awaited = Blue layer red p }
read_as (Blue layer red green) r p = record { style = mixed_style layer red green p r.style; awaited = Aspect }
read_as Nothing r p = r

abbrev pub with_parameter : Rendition → ℕ → Rendition
with_parameter r p = read_as r.awaited r p

-- the style after all parameters, in order
abbrev pub styled_by : List ℕ → Style → Style
styled_by params g = (fold with_parameter (record { style = g; awaited = Aspect }) params).style
