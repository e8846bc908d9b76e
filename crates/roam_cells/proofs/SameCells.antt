-- The test on two cells is true exactly if they are equal.
use Rattle.std.proofs.Common.{◌≡◌, ℕ, Bool, true, false, eqb, ◌&&◌, List, [], ◌∷◌, refl, sym, ap, ◌∙◌}
use Rattle.std.proofs.lemmas.Bool.{and_parts, eqb-true, eq-eqb, false≢true, false_from_ne_true}
use Rattle.std.specs.Prelude.{IsTrue, ◌↔◌}
use mathlib.Core.Bool.{beq}
use Rattle.roam_cells.specs.declared.styles.Style.{Style}
use Rattle.roam_cells.specs.declared.styles.Colour.{Colour}
use Rattle.roam_cells.specs.declared.styles.Colour.TheVariants.{Default, Index, Rgb}
use Rattle.roam_cells.specs.Glyph.{Glyph}
use Rattle.roam_cells.specs.Same.{same, same_points, same_style, same_colour}

bools : (a b : Bool) → beq a b ≡ true → a ≡ b
bools true true e = refl
bools false false e = refl
bools true false e = absurd (false≢true e)
bools false true e = absurd (false≢true e)

points_same : (xs ys : List ℕ) → same_points xs ys ≡ true → xs ≡ ys
points_same [] [] e = refl
points_same (x ∷ xs) (y ∷ ys) e =
    let h = and_parts (eqb x y) (same_points xs ys) e in
    ap (λ (z : ℕ). z ∷ xs) (eqb-true x y h.0) ∙ ap (λ (zs : List ℕ). y ∷ zs) (points_same xs ys h.1)
points_same [] (y ∷ ys) e = absurd (false≢true e)
points_same (x ∷ xs) [] e = absurd (false≢true e)

colour_same : (a b : Colour) → same_colour a b ≡ true → a ≡ b
colour_same Default Default e = refl
colour_same (Index a) (Index b) e = ap (λ (n : ℕ). Index n) (eqb-true a b e)
colour_same (Rgb r g b) (Rgb x y z) e =
    let h = and_parts (eqb r x) (eqb g y && eqb b z) e in
    let k = and_parts (eqb g y) (eqb b z) h.1 in
    λ i. Rgb (eqb-true r x h.0 i) (eqb-true g y k.0 i) (eqb-true b z k.1 i)
colour_same Default (Index b) e = absurd (false≢true e)
colour_same Default (Rgb x y z) e = absurd (false≢true e)
colour_same (Index a) Default e = absurd (false≢true e)
colour_same (Index a) (Rgb x y z) e = absurd (false≢true e)
colour_same (Rgb r g b) Default e = absurd (false≢true e)
colour_same (Rgb r g b) (Index c) e = absurd (false≢true e)

pub style_same : (s t : Style) → same_style s t ≡ true → s ≡ t
style_same s t e =
    let a = and_parts (beq s.bold t.bold) _ e in
    let b = and_parts (beq s.faint t.faint) _ a.1 in
    let c = and_parts (beq s.italic t.italic) _ b.1 in
    let d = and_parts (beq s.underline t.underline) _ c.1 in
    let f = and_parts (beq s.blink t.blink) _ d.1 in
    let g = and_parts (beq s.reverse t.reverse) _ f.1 in
    let h = and_parts (beq s.conceal t.conceal) _ g.1 in
    let j = and_parts (beq s.strike t.strike) _ h.1 in
    let k = and_parts (same_colour s.foreground t.foreground) (same_colour s.background t.background) j.1 in
    λ i. record {
      bold = bools s.bold t.bold a.0 i;
      faint = bools s.faint t.faint b.0 i;
      italic = bools s.italic t.italic c.0 i;
      underline = bools s.underline t.underline d.0 i;
      blink = bools s.blink t.blink f.0 i;
      reverse = bools s.reverse t.reverse g.0 i;
      conceal = bools s.conceal t.conceal h.0 i;
      strike = bools s.strike t.strike j.0 i;
      foreground = colour_same s.foreground t.foreground k.0 i;
      background = colour_same s.background t.background k.1 i;
    }

pub glyph_same : (a b : Glyph) → same a b ≡ true → a ≡ b
glyph_same a b e =
    let p = and_parts (same_points a.points b.points) _ e in
    let q = and_parts (same_style a.style b.style) (beq a.guarded b.guarded) p.1 in
    λ i. record { points = points_same a.points b.points p.0 i; style = style_same a.style b.style q.0 i; guarded = bools a.guarded b.guarded q.1 i }

bool_again : (a : Bool) → beq a a ≡ true
bool_again true = refl
bool_again false = refl

points_again : (xs : List ℕ) → same_points xs xs ≡ true
points_again [] = refl
points_again (x ∷ xs) = rw (eq-eqb x x refl) (points_again xs)

colour_again : (a : Colour) → same_colour a a ≡ true
colour_again Default = refl
colour_again (Index a) = eq-eqb a a refl
colour_again (Rgb r g b) = rw (eq-eqb r r refl, eq-eqb g g refl, eq-eqb b b refl) refl

pub style_again : (s : Style) → same_style s s ≡ true
style_again s =
    rw (bool_again s.bold, bool_again s.faint, bool_again s.italic, bool_again s.underline, bool_again s.blink, bool_again s.reverse, bool_again s.conceal, bool_again s.strike, colour_again s.foreground, colour_again s.background) refl

pub glyph_again : (g : Glyph) → same g g ≡ true
glyph_again g = rw (points_again g.points, style_again g.style, bool_again g.guarded) refl

pub same_glyph : (a b : Glyph) → a ≡ b → same a b ≡ true
same_glyph a b e = ap (same a) (sym e) ∙ glyph_again a

pub other_glyph : (a b : Glyph) → ¬ (a ≡ b) → same a b ≡ false
other_glyph a b h = false_from_ne_true (same a b) (λ e. h (glyph_same a b e))

-- a function that is true exactly for equal arguments is such a test
pub tells : {X : Type 0} (f : X → X → Bool) → ((x y : X) → f x y ≡ true → x ≡ y) → ((x : X) → f x x ≡ true) → (b : Bool) (x y : X) → IsTrue b ↔ (x ≡ y) → b ≡ f x y
tells f to from true x y h = sym (ap (λ z. f x z) (sym (h.0 refl)) ∙ from x)
tells f to from false x y h = sym (false_from_ne_true (f x y) (λ e. false≢true (h.1 (to x y e))))
