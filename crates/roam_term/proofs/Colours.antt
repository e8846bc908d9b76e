-- SGR leaves a style in colours that there are, whatever its parameters are.
use Rattle.std.proofs.Common.{◌≡◌, ℕ, ◌+◌, ◌≤◌, true, ◌&&◌, eqb, leb, List, [], ◌∷◌, arith}
use Rattle.std.specs.List.{fold}
use Rattle.std.proofs.lemmas.Bool.{leb-true}
use Rattle.roam_cells.specs.Glyph.{IsColour, IsStyle}
use Rattle.roam_cells.specs.declared.styles.Style.{Style}
use Rattle.roam_cells.specs.declared.styles.Colour.{Colour}
use Rattle.roam_cells.specs.declared.styles.Colour.TheVariants.{Index, Rgb}
use Rattle.roam_rows.proofs.Keeping.{either}
use Rattle.roam_rows.proofs.Mending.{and_left, and_right}
use Rattle.roam_controls.specs.declared.renditions.Layer.{Layer}
use Rattle.roam_controls.specs.declared.renditions.Layer.TheVariants.{Foreground, Background}
use Rattle.roam_controls.specs.declared.renditions.Awaited.{Awaited}
use Rattle.roam_controls.specs.declared.renditions.Awaited.TheVariants.{Aspect, ColourSpace, ColourIndex, Red, Green, Blue, Nothing}
use Rattle.roam_controls.specs.Renditions.{Rendition, coloured_style, with_colour, without_aspect, with_aspect, mixed_style, read_as, with_parameter, styled_by}

-- both colours of a style, as a pair: it is the same if only aspects differ
abbrev HasColours : Style → Type 0
HasColours s = IsColour s.foreground × IsColour s.background

coloured_has : (layer : Layer) (colour : Colour) (g : Style) → IsColour colour → HasColours g → HasColours (coloured_style layer colour g)
coloured_has Foreground colour g is has = (is, has.1)
coloured_has Background colour g is has = (has.0, is)

-- the last of a range of eight
last_of : (low p : ℕ) → (leb low p && leb p (low + 7)) ≡ true → p ≤ low + 7
last_of low p e = leb-true p (low + 7) (and_right (leb low p) (leb p (low + 7)) e)

numbered_has : (p : ℕ) (g : Style) → HasColours g → HasColours (with_colour p g)
numbered_has p g has =
    either HasColours (eqb p 39) _ _ (λ e. (tt, has.1))
    (λ e. either HasColours (eqb p 49) _ _ (λ e. (has.0, tt))
    (λ e. either HasColours (leb 30 p && leb p 37) _ _ (λ e. (omega (arith, last_of 30 p e), has.1))
    (λ e. either HasColours (leb 40 p && leb p 47) _ _ (λ e. (has.0, omega (arith, last_of 40 p e)))
    (λ e. either HasColours (leb 90 p && leb p 97) _ _ (λ e. (omega (arith, last_of 90 p e), has.1))
    (λ e. either HasColours (leb 100 p && leb p 107) _ _ (λ e. (has.0, omega (arith, last_of 100 p e))) (λ e. has))))))

ended_has : (p : ℕ) (g : Style) → HasColours g → HasColours (without_aspect p g)
ended_has p g has =
    either HasColours (eqb p 21) _ _ (λ e. has)
    (λ e. either HasColours (eqb p 22) _ _ (λ e. has)
    (λ e. either HasColours (eqb p 23) _ _ (λ e. has)
    (λ e. either HasColours (eqb p 24) _ _ (λ e. has)
    (λ e. either HasColours (eqb p 25) _ _ (λ e. has)
    (λ e. either HasColours (eqb p 27) _ _ (λ e. has)
    (λ e. either HasColours (eqb p 28) _ _ (λ e. has)
    (λ e. either HasColours (eqb p 29) _ _ (λ e. has) (λ e. numbered_has p g has))))))))

aspect_has : (p : ℕ) (g : Style) → HasColours g → HasColours (with_aspect p g)
aspect_has p g has =
    either HasColours (eqb p 0) _ _ (λ e. (tt, tt))
    (λ e. either HasColours (eqb p 1) _ _ (λ e. has)
    (λ e. either HasColours (eqb p 2) _ _ (λ e. has)
    (λ e. either HasColours (eqb p 3) _ _ (λ e. has)
    (λ e. either HasColours (eqb p 4) _ _ (λ e. has)
    (λ e. either HasColours (eqb p 5) _ _ (λ e. has)
    (λ e. either HasColours (eqb p 7) _ _ (λ e. has)
    (λ e. either HasColours (eqb p 8) _ _ (λ e. has)
    (λ e. either HasColours (eqb p 9) _ _ (λ e. has) (λ e. ended_has p g has)))))))))

mixed_has : (layer : Layer) (r g b : ℕ) (s : Style) → HasColours s → HasColours (mixed_style layer r g b s)
mixed_has layer r g b s has =
    either HasColours (leb r 255 && (leb g 255 && leb b 255)) _ _
    (λ e.
    let more = and_right (leb r 255) (leb g 255 && leb b 255) e in
    coloured_has layer (Rgb r g b) s (
      leb-true r 255 (and_left (leb r 255) (leb g 255 && leb b 255) e),
      leb-true g 255 (and_left (leb g 255) (leb b 255) more),
      leb-true b 255 (and_right (leb g 255) (leb b 255) more),
    ) has)
    (λ e. has)

-- the style read so far has colours that exist
abbrev IsRead : Rendition → Type 0
IsRead r = HasColours r.style

read_has : (awaited : Awaited) (r : Rendition) (p : ℕ) → IsRead r → IsRead (read_as awaited r p)
read_has Aspect r p has =
    either IsRead (eqb p 38) _ _ (λ e. has) (λ e. either IsRead (eqb p 48) _ _ (λ e. has) (λ e. aspect_has p r.style has))
read_has (ColourSpace layer) r p has =
    either IsRead (eqb p 5) _ _ (λ e. has) (λ e. either IsRead (eqb p 2) _ _ (λ e. has) (λ e. has))
read_has (ColourIndex layer) r p has =
    either IsRead (leb p 255) _ _ (λ e. coloured_has layer (Index p) r.style (leb-true p 255 e) has) (λ e. has)
read_has (Red layer) r p has = has
read_has (Green layer red) r p has = has
read_has (Blue layer red green) r p has = mixed_has layer red green p r.style has
read_has Nothing r p has = has

all_read : (params : List ℕ) (r : Rendition) → IsRead r → IsRead (fold with_parameter r params)
all_read [] r has = has
all_read (p ∷ params) r has = all_read params (with_parameter r p) (read_has r.awaited r p has)

pub styled_is : (params : List ℕ) (g : Style) → IsStyle g → IsStyle (styled_by params g)
styled_is params g is =
    let has = all_read params (record { style = g; awaited = Aspect }) (is.foreground, is.background) in
    record { foreground = has.0; background = has.1 }
