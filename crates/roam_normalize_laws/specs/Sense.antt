-- The style that spelled-out renditions set, beside the style that the program asked for. Cited by the laws of this crate.
use Rattle.std.specs.Prelude.{◌≡◌, ◌≢◌, ◌≤◌, ◌<◌, ℕ, ◌-◌, ◌==◌, ◌&&◌, nat_le, nat_lt, true, not, List, [], ◌∷◌, length, map}
use Rattle.std.specs.List.{flat_map, fold}
use Rattle.roam_cells.specs.declared.styles.Style.{Style}
use Rattle.roam_text.specs.Kinds.{kind_of}
use Rattle.roam_text.specs.ControlSequences.{capped_value, digits_of_parameters, first_sixteen}
use Rattle.roam_controls.specs.declared.renditions.Awaited.TheVariants.{Aspect}
use Rattle.roam_controls.specs.Renditions.{Rendition, read_so_far, styled_by, with_parameter}
use Rattle.roam_normalize.specs.Meanings.{are_numbers}
use Rattle.roam_normalize.specs.Normalized.{most_body}
use Rattle.roam_normalize.specs.Renditions.{rendition, spelled_out}

-- the values of the parameters between CSI and `m`, however many there are (ECMA-48 5.4.2)
abbrev pub parameters_of : List ℕ → List ℕ
parameters_of body = map capped_value (digits_of_parameters (map kind_of body))

-- the style after SGR with these bytes as its parameters, of which the terminal keeps sixteen (this project's profile)
abbrev pub styled_so : Style → List ℕ → Style
styled_so g body = styled_by (first_sixteen (parameters_of body)) g

-- a text is a list of SGR sequences, which turn one style into another
pub record Sets (text : List ℕ) (old new : Style) : Type 0 where
  pub groups : List (List ℕ)
  pub is : text ≡ flat_map rendition groups
  pub style : fold styled_so old groups ≡ new

-- Read on from here, none of these parameters selects 58 or 59, the colours of lines. As a value of 38 or 48 either number may occur.
abbrev pub AreKnown : Rendition → List ℕ → Type 0
AreKnown r [] = Unit {0}
AreKnown r (p ∷ rest) = (r.awaited ≡ Aspect → (p ≢ 58) × (p ≢ 59)) × AreKnown (with_parameter r p) rest

-- digits and semicolons, spelled out, set the style that all of their parameters set
abbrev pub SpelledOutMeansTheSame : Type 0
SpelledOutMeansTheSame =
    (body : List ℕ) (g : Style) → length body ≤ most_body → are_numbers body ≡ true → AreKnown (read_so_far g Aspect) (parameters_of body)
    → Sets (spelled_out body) g (styled_by (parameters_of body) g)

-- digits alone (ECMA-48 5.4.2)
abbrev pub AreDigits : List ℕ → Type 0
AreDigits [] = Unit {0}
AreDigits (b ∷ rest) = ((nat_le 0x30 b && nat_lt b 0x3A) ≡ true) × AreDigits rest

-- `4:n` sets the underline exactly if n is not 0
abbrev pub LineFormMeansItsValue : Type 0
LineFormMeansItsValue =
    (form : List ℕ) (g : Style) → AreDigits form → 0 < length form
    → Sets (spelled_out (0x34 ∷ 0x3A ∷ form)) g (record g { underline = not (capped_value (map (λ b. b - 0x30) form) == 0) })
