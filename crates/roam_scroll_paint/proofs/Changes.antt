-- SGR with the aspects that one style has and another hasn't makes the one of the other.
use Rattle.std.proofs.Common.{◌≡◌, ℕ, Bool, true, false, not, ◌&&◌, ◌||◌, List, [], ◌∷◌, ◌++◌, length, refl, sym, ap, ◌∙◌}
use Rattle.std.specs.Prelude.{fold, if◌then◌else◌, nat_lt, nat_le}
use Rattle.std.proofs.lemmas.Bool.{le-leb, and_parts, false≢true}
use Rattle.std.proofs.lemmas.List.Sums.{fold-append}
use Rattle.roam_cells.specs.Glyph.{IsColour, default_style}
use Rattle.roam_cells.specs.Same.{same_colour}
use Rattle.roam_cells.specs.declared.styles.Style.{Style}
use Rattle.roam_cells.specs.declared.styles.Colour.{Colour}
use Rattle.roam_cells.specs.declared.styles.Colour.TheVariants.{Default, Index, Rgb}
use Rattle.roam_cells.proofs.SameCells.{style_same, style_again}
use Rattle.roam_controls.specs.declared.renditions.Awaited.TheVariants.{Aspect}
use Rattle.roam_controls.specs.Renditions.{Rendition, with_parameter, styled_by}
use Rattle.roam_scroll_paint.specs.Styles.{flag_added, colour_words, change_codes, ends_flag, ends_alone, adds}

-- ---- the requirement of a rule, by its test

either_false : (a b : Bool) → (a || b) ≡ false → (a ≡ false) × (b ≡ false)
either_false true b e = absurd (false≢true (sym e))
either_false false b e = (refl, e)

not_false : (b : Bool) → not b ≡ true → b ≡ false
not_false true e = absurd (false≢true e)
not_false false e = refl

pub adds-no_flag : (g s : Style) → adds g s ≡ true → ends_flag g s ≡ false
unfolding adds
adds-no_flag g s e = not_false (ends_flag g s) (and_parts (not (ends_flag g s)) _ e).0

pub adds-few : (g s : Style) → adds g s ≡ true → (nat_lt 0 (length (change_codes g s)) ≡ true) × (nat_le (length (change_codes g s)) 16 ≡ true)
unfolding adds
adds-few g s e =
    let one = and_parts (not (ends_flag g s)) _ e in
    let two = and_parts (not (ends_alone g.foreground s.foreground g.background s.background)) _ one.1 in
    let three = and_parts (not (ends_alone g.background s.background g.foreground s.foreground)) _ two.1 in
    and_parts (nat_lt 0 (length (change_codes g s))) (nat_le (length (change_codes g s)) 16) three.1

-- ---- one after another

abbrev shown_as : Style → Rendition
shown_as s = record { style = s; awaited = Aspect }

abbrev folded : Rendition → List ℕ → Rendition
folded r params = fold with_parameter r params

-- parameters make one style of another
record Makes (g : Style) (params : List ℕ) (s : Style) : Type 0 where
  is : folded (shown_as g) params ≡ shown_as s

then_ : {a b c : Style} {xs ys : List ℕ} → Makes a xs b → Makes b ys c → Makes a (xs ++ ys) c
then_ {a} {b} {c} {xs} {ys} p q = record { is = fold-append with_parameter (shown_as a) xs ys ∙ ap (λ r. folded r ys) p.is ∙ q.is }

abbrev style : Bool → Bool → Bool → Bool → Bool → Bool → Bool → Bool → Colour → Colour → Style
style b f i u k r c s x y =
    record { bold = b; faint = f; italic = i; underline = u; blink = k; reverse = r; conceal = c; strike = s; foreground = x; background = y }

-- a flag that comes, if none goes
flag_is : (make : Bool → Style) (code : ℕ) → ((a : Bool) → folded (shown_as (make a)) (code ∷ []) ≡ shown_as (make true)) → (a b : Bool) → (a && not b) ≡ false
    → Makes (make a) (flag_added a b code) (make b)
flag_is make code sets true true e = record { is = refl }
flag_is make code sets true false e = absurd (false≢true (sym e))
flag_is make code sets false true e = record { is = sets false }
flag_is make code sets false false e = record { is = refl }

-- colours are compared as parts of styles
pub colour_same : (x y : Colour) → same_colour x y ≡ true → x ≡ y
colour_same x y e =
    ap (λ (s : Style). s.foreground)
    (style_same (record default_style { foreground = x }) (record default_style { foreground = y }) (ap (λ b. b && true) e))

and_true : (b : Bool) → (b && true) ≡ true → b ≡ true
and_true true e = refl
and_true false e = absurd (false≢true e)

pub colour_again : (x : Colour) → same_colour x x ≡ true
colour_again x = and_true (same_colour x x) (style_again (record default_style { foreground = x }))

words_fore : (b f i u k r c s : Bool) (x y z : Colour) → IsColour z
    → folded (shown_as (style b f i u k r c s x y)) (colour_words 38 39 z) ≡ shown_as (style b f i u k r c s z y)
words_fore b f i u k r c s x y Default h = refl
words_fore b f i u k r c s x y (Index n) h = rw (le-leb n 255 h) refl
words_fore b f i u k r c s x y (Rgb red green blue) h = rw (le-leb red 255 h.0, le-leb green 255 h.1, le-leb blue 255 h.2) refl

words_back : (b f i u k r c s : Bool) (x y z : Colour) → IsColour z
    → folded (shown_as (style b f i u k r c s x y)) (colour_words 48 49 z) ≡ shown_as (style b f i u k r c s x z)
words_back b f i u k r c s x y Default h = refl
words_back b f i u k r c s x y (Index n) h = rw (le-leb n 255 h) refl
words_back b f i u k r c s x y (Rgb red green blue) h = rw (le-leb red 255 h.0, le-leb green 255 h.1, le-leb blue 255 h.2) refl

colour_is : (make : Colour → Style) (code ending : ℕ) (x z : Colour) → folded (shown_as (make x)) (colour_words code ending z) ≡ shown_as (make z)
    → (t : Bool) → same_colour x z ≡ t → Makes (make x) (if t then [] else colour_words code ending z) (make z)
colour_is make code ending x z sets true e = record { is = ap (λ c. shown_as (make c)) (colour_same x z e) }
colour_is make code ending x z sets false e = record { is = sets }

pub changed-codes : (g s : Style) → IsColour s.foreground → IsColour s.background → ends_flag g s ≡ false → styled_by (change_codes g s) g ≡ s
unfolding change_codes
changed-codes g s fore back none =
    let e1 = either_false (g.bold && not s.bold) _ none in
    let e2 = either_false (g.faint && not s.faint) _ e1.1 in
    let e3 = either_false (g.italic && not s.italic) _ e2.1 in
    let e4 = either_false (g.underline && not s.underline) _ e3.1 in
    let e5 = either_false (g.blink && not s.blink) _ e4.1 in
    let e6 = either_false (g.reverse && not s.reverse) _ e5.1 in
    let e7 = either_false (g.conceal && not s.conceal) (g.strike && not s.strike) e6.1 in
    let x = g.foreground in
    let y = g.background in
    let all : Makes g (change_codes g s) s =
    then_ (then_ (then_ (then_ (then_ (then_ (then_ (then_ (then_
    (flag_is (λ b. style b g.faint g.italic g.underline g.blink g.reverse g.conceal g.strike x y) 1 (λ b. refl) g.bold s.bold e1.0)
    (flag_is (λ b. style s.bold b g.italic g.underline g.blink g.reverse g.conceal g.strike x y) 2 (λ b. refl) g.faint s.faint e2.0))
    (flag_is (λ b. style s.bold s.faint b g.underline g.blink g.reverse g.conceal g.strike x y) 3 (λ b. refl) g.italic s.italic e3.0))
    (flag_is (λ b. style s.bold s.faint s.italic b g.blink g.reverse g.conceal g.strike x y) 4 (λ b. refl) g.underline s.underline e4.0))
    (flag_is (λ b. style s.bold s.faint s.italic s.underline b g.reverse g.conceal g.strike x y) 5 (λ b. refl) g.blink s.blink e5.0))
    (flag_is (λ b. style s.bold s.faint s.italic s.underline s.blink b g.conceal g.strike x y) 7 (λ b. refl) g.reverse s.reverse e6.0))
    (flag_is (λ b. style s.bold s.faint s.italic s.underline s.blink s.reverse b g.strike x y) 8 (λ b. refl) g.conceal s.conceal e7.0))
    (flag_is (λ b. style s.bold s.faint s.italic s.underline s.blink s.reverse s.conceal b x y) 9 (λ b. refl) g.strike s.strike e7.1))
    (colour_is (λ c. style s.bold s.faint s.italic s.underline s.blink s.reverse s.conceal s.strike c y) 38 39 x s.foreground
    (words_fore s.bold s.faint s.italic s.underline s.blink s.reverse s.conceal s.strike x y s.foreground fore) (same_colour x s.foreground) refl))
    (colour_is (λ c. style s.bold s.faint s.italic s.underline s.blink s.reverse s.conceal s.strike s.foreground c) 48 49 y s.background
    (words_back s.bold s.faint s.italic s.underline s.blink s.reverse s.conceal s.strike s.foreground y s.background back) (same_colour y s.background) refl) in
    ap (λ (r : Rendition). r.style) all.is
