-- A cell's style and guard as one number: the last nine binary digits are the guard and the flags, and each colour has 25.
use Rattle.std.specs.Prelude.{◌≡◌, ℕ, suc, ◌+◌, ◌-◌, ◌*◌, ◌/◌, ◌%◌, ◌<◌, ◌≤◌, Bool, true, false, ◌==◌, nat_le, if◌then◌else◌}
use Rattle.std.proofs.Common.{◌⊎◌, inl, inr, refl, ap, ◌∙◌, arith}
use Rattle.std.proofs.lemmas.Bool.{cases_eq, cases_lt, ne_eqb, le-leb, lt-leb}
use Rattle.roam_cells.specs.declared.styles.Style.{Style}
use Rattle.roam_cells.specs.declared.styles.Colour.{Colour}
use Rattle.roam_cells.specs.declared.styles.Colour.TheVariants.{Default, Index, Rgb}
use Rattle.roam_cells.specs.declared.inks.Ink.TheInside.{Inside}

-- the ink of a character: its style (SGR, ECMA-48 8.3.117) and its guard (DECSCA, VT220 Programmer Reference)
pub record InkValue : Type 0 where
  pub style : Style
  pub guarded : Bool

-- a flag as a binary digit
unfoldable pub digit : Bool → ℕ
digit false = 0
digit true = 1

-- whether the last binary digit is 1
unfoldable pub is_odd : ℕ → Bool
is_odd n = n % 2 == 1

-- the flags of a style, the first in the last digit
unfoldable pub flags_of : Style → ℕ
flags_of s =
    digit s.bold + 2 * (digit s.faint + 2 * (digit s.italic + 2 * (digit s.underline
    + 2 * (digit s.blink + 2 * (digit s.reverse + 2 * (digit s.conceal + 2 * digit s.strike))))))

-- a colour's number: 0 is the terminal's own
unfoldable pub number_of : Colour → ℕ
number_of Default = 0
number_of (Index n) = suc n
number_of (Rgb r g b) = 257 + 65536 * r + 256 * g + b

-- the colour of a number: the terminal's own, one of a table of 256, or a mixture
unfoldable pub colour_of : ℕ → Colour
colour_of n =
    if n == 0 then Default
    else if nat_le n 256 then Index (n - 1)
    else Rgb ((n - 257) / 65536) ((n - 257) / 256 % 256) ((n - 257) % 256)

-- the style that these numbers say
unfoldable pub style_of : ℕ → ℕ → ℕ → Style
style_of flags foreground background =
    record {
      bold = is_odd flags;
      faint = is_odd (flags / 2);
      italic = is_odd (flags / 2 / 2);
      underline = is_odd (flags / 2 / 2 / 2);
      blink = is_odd (flags / 2 / 2 / 2 / 2);
      reverse = is_odd (flags / 2 / 2 / 2 / 2 / 2);
      conceal = is_odd (flags / 2 / 2 / 2 / 2 / 2 / 2);
      strike = is_odd (flags / 2 / 2 / 2 / 2 / 2 / 2 / 2);
      foreground = colour_of foreground;
      background = colour_of background;
    }

-- the ink of a number: the last digit is the guard, and before it come the flags, the foreground and the background
unfoldable pub ink_numbered : ℕ → InkValue
ink_numbered n = record { style = style_of (n % 512 / 2) (n / 512 % 33554432) (n / 512 / 33554432); guarded = is_odd n }

-- the number that says it
unfoldable pub number_of_ink : InkValue → ℕ
number_of_ink v = digit v.guarded + 2 * flags_of v.style + 512 * (number_of v.style.foreground + 33554432 * number_of v.style.background)

-- the style that a number without the guard says, and the number that says it
unfoldable pub style_numbered : ℕ → Style
style_numbered n = style_of (n % 256) (n / 256 % 33554432) (n / 256 / 33554432)

unfoldable pub style_number : Style → ℕ
style_number s = flags_of s + 256 * (number_of s.foreground + 33554432 * number_of s.background)

-- each colour is the terminal's own, one of 256, or one of 256 ^ 3
pub record IsInkNumber (n : ℕ) : Type 0 where
  pub foreground : n / 512 % 33554432 ≤ 16777472
  pub background : n / 512 / 33554432 ≤ 16777472

-- an ink shows the style and guard of its number
abbrev pub ink_of : Inside → InkValue
ink_of a = ink_numbered a.number

-- its number is one of an ink
abbrev pub IsInk : Inside → Type 0
IsInk a = IsInkNumber a.number

-- the fields that show it
abbrev pub inside_of : InkValue → Inside
inside_of v = record { number = number_of_ink v }

-- ---- the number comes back from its ink

-- a number is odd or even
odd_or_even : (n : ℕ) → (n % 2 ≡ 1) ⊎ (n % 2 ≡ 0)
odd_or_even n = elim (cases_eq (n % 2) 1) [ inl odd ↦ inl odd | inr even ↦ inr (omega (arith, even)) ]

pub digit_back : (n : ℕ) → digit (is_odd n) + 2 * (n / 2) ≡ n
unfolding is_odd digit
digit_back n =
    elim (odd_or_even n) [
      | inl odd ↦ ap (λ k. digit (k == 1) + 2 * (n / 2)) odd ∙ omega (arith, odd)
      | inr even ↦ ap (λ k. digit (k == 1) + 2 * (n / 2)) even ∙ omega (arith, even)
    ]

number_back : (n : ℕ) → number_of (colour_of n) ≡ n
unfolding number_of colour_of
number_back n =
    elim (cases_eq n 0) [
      | inl none ↦ rw none refl
      | inr some ↦
          elim (cases_lt 256 n) [
            | inl many ↦ rw (ne_eqb n 0 some, lt-leb n 256 many) (omega (arith, many))
            | inr few ↦ rw (ne_eqb n 0 some, le-leb n 256 few) (omega (arith, few, some))
          ]
    ]

flags_back : (n : ℕ) → n < 256 → flags_of (style_of n 0 0) ≡ n
unfolding flags_of style_of
flags_back n h =
    let last : digit (is_odd (n / 2 / 2 / 2 / 2 / 2 / 2 / 2)) ≡ n / 2 / 2 / 2 / 2 / 2 / 2 / 2 =
    omega (arith, digit_back (n / 2 / 2 / 2 / 2 / 2 / 2 / 2)) in
    omega (
      arith,
      last,
      digit_back (n / 2 / 2 / 2 / 2 / 2 / 2),
      digit_back (n / 2 / 2 / 2 / 2 / 2),
      digit_back (n / 2 / 2 / 2 / 2),
      digit_back (n / 2 / 2 / 2),
      digit_back (n / 2 / 2),
      digit_back (n / 2),
      digit_back n,
    )

pub digits_back : (n : ℕ)
    → digit (is_odd n) + 2 * flags_of (style_of (n % 512 / 2) (n / 512 % 33554432) (n / 512 / 33554432)) ≡ n % 512
unfolding flags_of style_of
digits_back n = ap (λ k. digit (is_odd n) + 2 * k) (flags_back (n % 512 / 2) (omega arith)) ∙ omega (arith, digit_back n)

style_digits_back : (n : ℕ) → flags_of (style_of (n % 256) (n / 256 % 33554432) (n / 256 / 33554432)) ≡ n % 256
unfolding flags_of style_of
style_digits_back n = flags_back (n % 256) (omega arith)

-- two numbers that say one style are one
pub style_number_back : (n : ℕ) → style_number (style_numbered n) ≡ n
unfolding style_number style_numbered style_of
style_number_back n = omega (arith, style_digits_back n, number_back (n / 256 % 33554432), number_back (n / 256 / 33554432))

pub numbered_back : (n : ℕ) → number_of_ink (ink_numbered n) ≡ n
unfolding number_of_ink ink_numbered style_of
numbered_back n = omega (arith, digits_back n, number_back (n / 512 % 33554432), number_back (n / 512 / 33554432))

pub inside_back : (a : Inside) → IsInk a → inside_of (ink_of a) ≡ a
inside_back a h i = record { number = numbered_back a.number i }
