-- Styles that lists of SGR parameters set, one list after another.
use Rattle.std.proofs.Common.{◌≡◌, ◌≤◌, ℕ, Bool, true, false, cond, List, [], ◌∷◌, length, take, drop, take_all, refl, sym, ap, ◌∙◌}
use Rattle.std.specs.Prelude.{◌==◌, ◌||◌, nat_le}
use Rattle.std.specs.List.{fold}
use Rattle.std.proofs.lemmas.List.{take-append-drop}
use Rattle.std.proofs.lemmas.List.Sums.{fold-append}
use Rattle.roam_cells.specs.declared.styles.Style.{Style}
use Rattle.roam_cells.specs.declared.styles.Colour.TheVariants.{Index}
use Rattle.roam_text.specs.ControlSequences.{first_sixteen}
use Rattle.roam_controls.specs.declared.renditions.Layer.{Layer}
use Rattle.roam_controls.specs.declared.renditions.Awaited.{Awaited}
use Rattle.roam_controls.specs.declared.renditions.Awaited.TheVariants.{Aspect, ColourSpace, ColourIndex, Nothing}
use Rattle.roam_controls.specs.Renditions.{Rendition, coloured_style, styled_by, with_aspect, with_parameter}

abbrev pub start : Style → Rendition
start g = record { style = g; awaited = Aspect }

-- the style after some parameters, and the awaited one
abbrev pub after : Style → List ℕ → Rendition
after g ps = fold with_parameter (start g) ps

pub nothing-stays : (ps : List ℕ) (g : Style)
    → fold with_parameter (record { style = g; awaited = Nothing }) ps ≡ record { style = g; awaited = Nothing }
nothing-stays [] g = refl
nothing-stays (p ∷ ps) g = nothing-stays ps g

-- if the first parameters end an aspect, the rest goes on from there
pub splits : (k : ℕ) (ps : List ℕ) (g : Style) → (after g (take k ps)).awaited ≡ Aspect
    → styled_by ps g ≡ styled_by (drop k ps) (styled_by (take k ps) g)
splits k ps g is =
    ap (λ l. (after g l).style) (sym (take-append-drop k ps))
    ∙ ap (λ (r : Rendition). r.style) (fold-append with_parameter (start g) (take k ps) (drop k ps))
    ∙ ap (λ a. (fold with_parameter (record { style = (after g (take k ps)).style; awaited = a }) (drop k ps)).style) is

pub few-kept : (ps : List ℕ) → length ps ≤ 16 → first_sixteen ps ≡ ps
unfolding first_sixteen
few-kept ps few = take_all 16 ps few

-- ---- one group

pub aspect-ends : (p : ℕ) (g : Style) → (p == 38 || p == 48) ≡ false → (after g (p ∷ [])).awaited ≡ Aspect
aspect-ends p g h = by (p == 38) (p == 48) h
  where
    by : (x y : Bool) → (x || y) ≡ false
        → (cond x (record (start g) { awaited = ColourSpace Layer.Foreground }) (cond y (record (start g) { awaited = ColourSpace Layer.Background })
        (record (start g) { style = with_aspect p g }))).awaited ≡ Aspect
    by true y e = cc
    by false true e = cc
    by false false e = refl

-- 38 and 48 await a colour
pub colour-begins : (p : ℕ) (g : Style) → (p == 38 || p == 48) ≡ true → (layer : Layer)
    × (with_parameter (start g) p ≡ record { style = g; awaited = ColourSpace layer })
colour-begins p g h = by (p == 38) (p == 48) h
  where
    by : (x y : Bool) → (x || y) ≡ true → (layer : Layer)
        × (cond x (record (start g) { awaited = ColourSpace Layer.Foreground }) (cond y (record (start g) { awaited = ColourSpace Layer.Background })
        (record (start g) { style = with_aspect p g })) ≡ record { style = g; awaited = ColourSpace layer })
    by true y e = (Layer.Foreground, refl)
    by false true e = (Layer.Background, refl)
    by false false e = cc

either-ends : (t : Bool) (x y : Rendition) → x.awaited ≡ Aspect → y.awaited ≡ Aspect → (cond t x y).awaited ≡ Aspect
either-ends true x y h k = h
either-ends false x y h k = k

index-ends : (layer : Layer) (i : ℕ) (g : Style)
    → (with_parameter (record { style = g; awaited = ColourIndex layer }) i).awaited ≡ Aspect
index-ends layer i g =
    either-ends (nat_le i 255) (record { style = coloured_style layer (Index i) g; awaited = Aspect }) (record { style = g; awaited = Aspect })
    refl refl

pub index-group : (p i : ℕ) (g : Style) → (p == 38 || p == 48) ≡ true → (after g (p ∷ 5 ∷ i ∷ [])).awaited ≡ Aspect
index-group p i g h =
    let first = colour-begins p g h in
    ap (λ r. (fold with_parameter r (5 ∷ i ∷ [])).awaited) first.1 ∙ index-ends first.0 i g

pub mixture-group : (p red green blue : ℕ) (g : Style) → (p == 38 || p == 48) ≡ true
    → (after g (p ∷ 2 ∷ red ∷ green ∷ blue ∷ [])).awaited ≡ Aspect
mixture-group p red green blue g h =
    let first = colour-begins p g h in ap (λ r. (fold with_parameter r (2 ∷ red ∷ green ∷ blue ∷ [])).awaited) first.1

-- neither an index nor a mixture: the rest says nothing
other-ends : (layer : Layer) (q : ℕ) (g : Style) → (q == 5) ≡ false → (q == 2) ≡ false
    → with_parameter (record { style = g; awaited = ColourSpace layer }) q ≡ record { style = g; awaited = Nothing }
other-ends layer q g five two =
    ap (λ t. cond t (record { style = g; awaited = ColourIndex layer }) (cond (q == 2) (record { style = g; awaited = Awaited.Red layer })
    (record { style = g; awaited = Nothing }))) five
    ∙ ap (λ t. cond t (record { style = g; awaited = Awaited.Red layer }) (record { style = g; awaited = Nothing })) two

pub other-group : (p q : ℕ) (more : List ℕ) (g : Style) → (p == 38 || p == 48) ≡ true → (q == 5) ≡ false → (q == 2) ≡ false
    → styled_by (p ∷ q ∷ more) g ≡ g
other-group p q more g h five two =
    let first = colour-begins p g h in
    ap (λ r. (fold with_parameter r (q ∷ more)).style) first.1
    ∙ ap (λ r. (fold with_parameter r more).style) (other-ends first.0 q g five two)
    ∙ ap (λ (r : Rendition). r.style) (nothing-stays more g)

pub other-kept : (p q : ℕ) (more : List ℕ) (g : Style) → (p == 38 || p == 48) ≡ true → (q == 5) ≡ false → (q == 2) ≡ false
    → styled_by (first_sixteen (p ∷ q ∷ more)) g ≡ styled_by (p ∷ q ∷ more) g
unfolding first_sixteen
other-kept p q more g h five two = other-group p q (take 14 more) g h five two ∙ sym (other-group p q more g h five two)
