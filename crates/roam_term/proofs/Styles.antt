-- SGR with all of a style's codes sets that style.
use Rattle.std.proofs.Common.{◌≡◌, ℕ, Bool, true, false, List, [], ◌∷◌, refl, sym, ap, ◌∙◌}
use Rattle.std.specs.Prelude.{fold, if◌then◌else◌}
use Rattle.std.proofs.lemmas.Bool.{le-leb}
use Rattle.roam_cells.specs.Glyph.{IsColour}
use Rattle.roam_cells.specs.declared.styles.Style.{Style}
use Rattle.roam_cells.specs.declared.styles.Colour.{Colour}
use Rattle.roam_cells.specs.declared.styles.Colour.TheVariants.{Default, Index, Rgb}
use Rattle.roam_controls.specs.declared.renditions.Awaited.TheVariants.{Aspect}
use Rattle.roam_controls.specs.declared.renditions.Layer.{Layer}
use Rattle.roam_controls.specs.declared.renditions.Layer.TheVariants.{Foreground, Background}
use Rattle.roam_controls.specs.Renditions.{Rendition, coloured_style, with_parameter, styled_by}
use Rattle.roam_term.specs.ControlFunctions.{flag_code, colour_codes, style_codes, layer_code, plain_colour, plain_style}

abbrev folded : Style → List ℕ → Rendition
folded g params = fold with_parameter (record { style = g; awaited = Aspect }) params

abbrev style : Bool → Bool → Bool → Bool → Bool → Bool → Bool → Bool → Colour → Colour → Style
style b f i u k r c s x y =
    record { bold = b; faint = f; italic = i; underline = u; blink = k; reverse = r; conceal = c; strike = s; foreground = x; background = y }

module _ (b f i u k r c s : Bool) (x y : Colour) (more : List ℕ) where
  bold : folded (style false f i u k r c s x y) (flag_code b 1 more) ≡ folded (style b f i u k r c s x y) more
  bold = elim b as (λ b. folded (style false f i u k r c s x y) (flag_code b 1 more) ≡ folded (style b f i u k r c s x y) more) [ true ↦ refl | false ↦ refl ]

  faint : folded (style b false i u k r c s x y) (flag_code f 2 more) ≡ folded (style b f i u k r c s x y) more
  faint = elim f as (λ f. folded (style b false i u k r c s x y) (flag_code f 2 more) ≡ folded (style b f i u k r c s x y) more) [ true ↦ refl | false ↦ refl ]

  italic : folded (style b f false u k r c s x y) (flag_code i 3 more) ≡ folded (style b f i u k r c s x y) more
  italic = elim i as (λ i. folded (style b f false u k r c s x y) (flag_code i 3 more) ≡ folded (style b f i u k r c s x y) more) [ true ↦ refl | false ↦ refl ]

  underline : folded (style b f i false k r c s x y) (flag_code u 4 more) ≡ folded (style b f i u k r c s x y) more
  underline = elim u as (λ u. folded (style b f i false k r c s x y) (flag_code u 4 more) ≡ folded (style b f i u k r c s x y) more) [ true ↦ refl | false ↦ refl ]

  blink : folded (style b f i u false r c s x y) (flag_code k 5 more) ≡ folded (style b f i u k r c s x y) more
  blink = elim k as (λ k. folded (style b f i u false r c s x y) (flag_code k 5 more) ≡ folded (style b f i u k r c s x y) more) [ true ↦ refl | false ↦ refl ]

  reverse : folded (style b f i u k false c s x y) (flag_code r 7 more) ≡ folded (style b f i u k r c s x y) more
  reverse = elim r as (λ r. folded (style b f i u k false c s x y) (flag_code r 7 more) ≡ folded (style b f i u k r c s x y) more) [ true ↦ refl | false ↦ refl ]

  conceal : folded (style b f i u k r false s x y) (flag_code c 8 more) ≡ folded (style b f i u k r c s x y) more
  conceal = elim c as (λ c. folded (style b f i u k r false s x y) (flag_code c 8 more) ≡ folded (style b f i u k r c s x y) more) [ true ↦ refl | false ↦ refl ]

  strike : folded (style b f i u k r c false x y) (flag_code s 9 more) ≡ folded (style b f i u k r c s x y) more
  strike = elim s as (λ s. folded (style b f i u k r c false x y) (flag_code s 9 more) ≡ folded (style b f i u k r c s x y) more) [ true ↦ refl | false ↦ refl ]

coloured-is : (layer : Layer) (g : Style) (x : Colour) (more : List ℕ) → IsColour x → coloured_style layer Default g ≡ g
    → folded g (colour_codes (layer_code layer) x more) ≡ folded (coloured_style layer (plain_colour x) g) more
coloured-is Foreground g Default more h e = ap (λ s. folded s more) (sym e)
coloured-is Background g Default more h e = ap (λ s. folded s more) (sym e)
coloured-is Foreground g (Index n) more h e =
    ap (λ b. fold with_parameter (if b then record { style = coloured_style Foreground (Index n) g; awaited = Aspect } else record { style = g; awaited = Aspect }) more)
    (le-leb n 255 h)
coloured-is Background g (Index n) more h e =
    ap (λ b. fold with_parameter (if b then record { style = coloured_style Background (Index n) g; awaited = Aspect } else record { style = g; awaited = Aspect }) more)
    (le-leb n 255 h)
coloured-is Foreground g (Rgb x y z) more h e = ap (λ s. folded s more) (sym e)
coloured-is Background g (Rgb x y z) more h e = ap (λ s. folded s more) (sym e)

-- a mixture after 38 or 48 and 2
pub mixed-codes : (layer : Layer) (s : Style) (r g b : ℕ) → IsColour (Rgb r g b)
    → styled_by (layer_code layer ∷ 2 ∷ r ∷ g ∷ b ∷ []) s ≡ coloured_style layer (Rgb r g b) s
mixed-codes Foreground s r g b h = rw (le-leb r 255 h.0, le-leb g 255 h.1, le-leb b 255 h.2) refl
mixed-codes Background s r g b h = rw (le-leb r 255 h.0, le-leb g 255 h.1, le-leb b 255 h.2) refl

pub styled-codes : (s g : Style) → IsColour s.foreground → IsColour s.background → styled_by (style_codes s) g ≡ plain_style s
styled-codes s g fore back =
    let last = colour_codes 48 s.background [] in
    let colours = colour_codes 38 s.foreground last in
    let a = flag_code s.strike 9 colours in
    let b = flag_code s.conceal 8 a in
    let c = flag_code s.reverse 7 b in
    let d = flag_code s.blink 5 c in
    let e = flag_code s.underline 4 d in
    let f = flag_code s.italic 3 e in
    let h = flag_code s.faint 2 f in
    ap (λ (t : Rendition). t.style)
    (bold s.bold false false false false false false false Default Default h
    ∙ faint s.bold s.faint false false false false false false Default Default f
    ∙ italic s.bold s.faint s.italic false false false false false Default Default e
    ∙ underline s.bold s.faint s.italic s.underline false false false false Default Default d
    ∙ blink s.bold s.faint s.italic s.underline s.blink false false false Default Default c
    ∙ reverse s.bold s.faint s.italic s.underline s.blink s.reverse false false Default Default b
    ∙ conceal s.bold s.faint s.italic s.underline s.blink s.reverse s.conceal false Default Default a
    ∙ strike s.bold s.faint s.italic s.underline s.blink s.reverse s.conceal s.strike Default Default colours
    ∙ coloured-is Foreground (style s.bold s.faint s.italic s.underline s.blink s.reverse s.conceal s.strike Default Default) s.foreground last fore refl
    ∙ coloured-is Background (style s.bold s.faint s.italic s.underline s.blink s.reverse s.conceal s.strike (plain_colour s.foreground) Default) s.background [] back refl)
