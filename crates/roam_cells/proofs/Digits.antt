-- Binary digits: a flag put in front is the last digit, and half of the number is the number before.
use Rattle.std.proofs.Common.{◌≡◌, ℕ, ◌+◌, ◌-◌, ◌*◌, ◌/◌, ◌%◌, ◌<◌, ◌≤◌, Bool, true, false, ◌==◌, eqb, leb, cond, refl, ap, ◌∙◌, arith}
use Rattle.std.proofs.lemmas.Bool.{ne_eqb, lt-leb}
use Rattle.roam_cells.specs.declared.styles.Style.{Style}
use Rattle.roam_cells.specs.declared.styles.Colour.TheVariants.{Default, Index, Rgb}
use Rattle.roam_cells.specs.Inks.{digit, is_odd, flags_of, colour_of, style_of, ink_numbered, style_numbered}

pub odd_digit : (b : Bool) (m : ℕ) → is_odd (digit b + 2 * m) ≡ b
unfolding is_odd digit
odd_digit true m = let one : (1 + 2 * m) % 2 ≡ 1 = omega arith in ap (λ k. k == 1) one
odd_digit false m = let none : (0 + 2 * m) % 2 ≡ 0 = omega arith in ap (λ k. k == 1) none

half_digit : (b : Bool) (m : ℕ) → (digit b + 2 * m) / 2 ≡ m
unfolding digit
half_digit true m = omega arith
half_digit false m = omega arith

even_digit : (m n : ℕ) → n ≡ 2 * m → n ≡ digit false + 2 * m
unfolding digit
even_digit m n e = omega (arith, e)

last_digit : (b : Bool) → is_odd (digit b) ≡ b
unfolding is_odd digit
last_digit true = refl
last_digit false = refl

-- a mixture comes back from its number
pub mixture_back : (r g b n : ℕ) → n ≡ 257 + 65536 * r + 256 * g + b → g < 256 → b < 256 → colour_of n ≡ Rgb r g b
unfolding colour_of
mixture_back r g b n is green blue i =
    let some : eqb n 0 ≡ false = ne_eqb n 0 (λ none. omega (arith, none, is)) in
    let many : leb n 256 ≡ false = lt-leb n 256 (omega (arith, is)) in
    let red_is : (n - 257) / 65536 ≡ r = omega (arith, is) in
    let green_is : (n - 257) / 256 % 256 ≡ g = omega (arith, is) in
    let blue_is : (n - 257) % 256 ≡ b = omega (arith, is) in
    (ap (λ t. cond t Default (cond (leb n 256) (Index (n - 1)) (Rgb ((n - 257) / 65536) ((n - 257) / 256 % 256) ((n - 257) % 256)))) some
    ∙ ap (λ t. cond t (Index (n - 1)) (Rgb ((n - 257) / 65536) ((n - 257) / 256 % 256) ((n - 257) % 256))) many
    ∙ (λ j. Rgb (red_is j) (green_is j) (blue_is j))) i

-- a style comes back from its numbers
pub style_back : (s : Style) (front back : ℕ) → colour_of front ≡ s.foreground → colour_of back ≡ s.background
    → style_of (flags_of s) front back ≡ s
unfolding flags_of style_of
style_back s front back fore_is back_is i =
    let f7 = digit s.strike in
    let f6 = digit s.conceal + 2 * f7 in
    let f5 = digit s.reverse + 2 * f6 in
    let f4 = digit s.blink + 2 * f5 in
    let f3 = digit s.underline + 2 * f4 in
    let f2 = digit s.italic + 2 * f3 in
    let f1 = digit s.faint + 2 * f2 in
    let h1 : flags_of s / 2 ≡ f1 = half_digit s.bold f1 in
    let h2 : flags_of s / 2 / 2 ≡ f2 = ap (λ k. k / 2) h1 ∙ half_digit s.faint f2 in
    let h3 : flags_of s / 2 / 2 / 2 ≡ f3 = ap (λ k. k / 2) h2 ∙ half_digit s.italic f3 in
    let h4 : flags_of s / 2 / 2 / 2 / 2 ≡ f4 = ap (λ k. k / 2) h3 ∙ half_digit s.underline f4 in
    let h5 : flags_of s / 2 / 2 / 2 / 2 / 2 ≡ f5 = ap (λ k. k / 2) h4 ∙ half_digit s.blink f5 in
    let h6 : flags_of s / 2 / 2 / 2 / 2 / 2 / 2 ≡ f6 = ap (λ k. k / 2) h5 ∙ half_digit s.reverse f6 in
    let h7 : flags_of s / 2 / 2 / 2 / 2 / 2 / 2 / 2 ≡ f7 = ap (λ k. k / 2) h6 ∙ half_digit s.conceal f7 in
    record {
      bold = odd_digit s.bold f1 i;
      faint = (ap is_odd h1 ∙ odd_digit s.faint f2) i;
      italic = (ap is_odd h2 ∙ odd_digit s.italic f3) i;
      underline = (ap is_odd h3 ∙ odd_digit s.underline f4) i;
      blink = (ap is_odd h4 ∙ odd_digit s.blink f5) i;
      reverse = (ap is_odd h5 ∙ odd_digit s.reverse f6) i;
      conceal = (ap is_odd h6 ∙ odd_digit s.conceal f7) i;
      strike = (ap is_odd h7 ∙ last_digit s.strike) i;
      foreground = fore_is i;
      background = back_is i;
    }

-- the number of nine digits, a foreground and a background says the style and the guard of which it has the numbers
pub ink_back : (s : Style) (g : Bool) (d f b n : ℕ) → d ≡ digit g + 2 * flags_of s → colour_of f ≡ s.foreground → colour_of b ≡ s.background
    → n ≡ d + 512 * (f + 33554432 * b) → d < 512 → f ≤ 16777472 → ink_numbered n ≡ record { style = s; guarded = g }
unfolding ink_numbered
ink_back s g d f b n digits front back sum low few i =
    let flags_in : n % 512 / 2 ≡ d / 2 = omega (arith, sum, low, few) in
    let front_in : n / 512 % 33554432 ≡ f = omega (arith, sum, low, few) in
    let back_in : n / 512 / 33554432 ≡ b = omega (arith, sum, low, few) in
    let last : n ≡ digit g + 2 * (flags_of s + 256 * (f + 33554432 * b)) = omega (arith, sum, digits) in
    record {
      style = (ap (λ k. style_of k (n / 512 % 33554432) (n / 512 / 33554432)) (flags_in ∙ ap (λ k. k / 2) digits ∙ half_digit g (flags_of s))
          ∙ ap (λ k. style_of (flags_of s) k (n / 512 / 33554432)) front_in
          ∙ ap (λ k. style_of (flags_of s) f k) back_in ∙ style_back s f b front back) i;
      guarded = (ap is_odd last ∙ odd_digit g (flags_of s + 256 * (f + 33554432 * b))) i;
    }

-- the number without its last digit says the same style, unguarded
pub ink_unguarded : (n m : ℕ) → m ≡ n / 2 * 2 → ink_numbered m ≡ record { style = (ink_numbered n).style; guarded = false }
unfolding ink_numbered
ink_unguarded n m e i =
    let flags_in : m % 512 / 2 ≡ n % 512 / 2 = omega (arith, e) in
    let front_in : m / 512 % 33554432 ≡ n / 512 % 33554432 = omega (arith, e) in
    let back_in : m / 512 / 33554432 ≡ n / 512 / 33554432 = omega (arith, e) in
    let even : m ≡ digit false + 2 * (n / 2) = even_digit (n / 2) m (omega (arith, e)) in
    record { style = style_of (flags_in i) (front_in i) (back_in i); guarded = (ap is_odd even ∙ odd_digit false (n / 2)) i }

-- the style of an ink is what its number without the last digit says
pub style_of_ink : (n : ℕ) → style_numbered (n / 2) ≡ (ink_numbered n).style
unfolding ink_numbered style_numbered
style_of_ink n i =
    let flags_in : n / 2 % 256 ≡ n % 512 / 2 = omega arith in
    let front_in : n / 2 / 256 % 33554432 ≡ n / 512 % 33554432 = omega arith in
    let back_in : n / 2 / 256 / 33554432 ≡ n / 512 / 33554432 = omega arith in
    style_of (flags_in i) (front_in i) (back_in i)
