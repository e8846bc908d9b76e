-- An aspect by a mask: it clears the digits of a flag or of a colour and puts others there. The number is then that of the style with this
-- aspect.
use Rattle.std.proofs.Common.{◌≡◌, ℕ, ◌+◌, ◌-◌, ◌*◌, ◌/◌, ◌%◌, ◌^◌, ◌<◌, ◌≤◌, Bool, true, false, refl, sym, ap, subst, ◌∙◌, arith, leb-true, mod-lt, cond, suc, eqb, leb}
use Rattle.std.proofs.lemmas.Bool.{ne_eqb, le-leb}
use Rattle.std.specs.Int.Bits.{bit_and}
use Rattle.std.specs.Int.Bits.{and_zero_r}
use Rattle.std.proofs.lemmas.Nat.{and_block, and_mask, pow_pos, shr_split}
use Rattle.roam_cells.specs.Glyph.{default_style}
use Rattle.roam_cells.specs.declared.styles.Style.{Style}
use Rattle.roam_cells.specs.declared.styles.Colour.{Colour}
use Rattle.roam_cells.specs.declared.styles.Colour.TheVariants.{Default, Index, Rgb}
use Rattle.roam_cells.specs.Aspects.{Flag, Bold, Faint, Italic, Underline, Blink, Reverse, Conceal, Strike, Aspect, Unchanged, Plain, Flagged, NeitherBoldNorFaint, Front, Back, showing, mask_of, digits_of, is_listed, is_aspect}
use Rattle.roam_cells.specs.Inks.{InkValue, IsInkNumber, colour_of, digit, digit_back, digits_back, flags_of, ink_numbered, is_odd, number_of, style_of}
use Rattle.roam_cells.proofs.Digits.{ink_back}

-- ---- the digits that a mask of adjacent digits keeps

and_part : (n k j : ℕ) → bit_and n ((2 ^ j - 1) * 2 ^ k) ≡ n / 2 ^ k % 2 ^ j * 2 ^ k
and_part n k j =
    let high = n / 2 ^ k in
    let low = n % 2 ^ k in
    let part = (2 ^ j - 1) * 2 ^ k in
    let whole : part ≡ (2 ^ j - 1) * 2 ^ k + 0 = omega arith in
    ap (λ a. bit_and a part) (sym (shr_split n k)) ∙ ap (bit_and (high * 2 ^ k + low)) whole
    ∙ and_block k high (2 ^ j - 1) low 0 (mod-lt n (pow_pos k)) (pow_pos k)
    ∙ ap (λ a. bit_and high (2 ^ j - 1) * 2 ^ k + a) (and_zero_r low)
    ∙ ap (λ a. a * 2 ^ k + 0) (and_mask high j) ∙ omega arith

-- ---- the number in an aspect

pub record Says (v : InkValue) (n : ℕ) : Type 0 where
  pub value : ink_numbered n ≡ v
  pub number : IsInkNumber n
  pub few : n < 2 ^ 60

-- a number of nine digits, a foreground and a background
says : (s : Style) (g : Bool) (d f b n : ℕ) → d ≡ digit g + 2 * flags_of s → colour_of f ≡ s.foreground → colour_of b ≡ s.background
    → n ≡ d + 512 * (f + 33554432 * b) → d < 512 → f ≤ 16777472 → b ≤ 16777472 → Says (record { style = s; guarded = g }) n
says s g d f b n digits front back sum low few few' =
    record {
      value = ink_back s g d f b n digits front back sum low few;
      number = record { foreground = omega (arith, sum, low, few, few'); background = omega (arith, sum, low, few, few') };
      few = omega (arith, sum, low, few, few');
    }

abbrev number_in : ℕ → Aspect → ℕ
number_in n e = n - bit_and n (mask_of e) + digits_of e

digit-one : (b : Bool) → digit b ≤ 1
unfolding digit
digit-one true = omega arith
digit-one false = omega arith

listed_back : (colour : Colour) → is_listed colour ≡ true → colour_of (number_of colour) ≡ colour
unfolding colour_of number_of
listed_back Default h = refl
listed_back (Index n) h =
    let few = leb-true n 255 h in
    let some : eqb (suc n) 0 ≡ false = ne_eqb (suc n) 0 (λ none. omega (arith, none)) in
    let listed : leb (suc n) 256 ≡ true = le-leb (suc n) 256 (omega (arith, few)) in
    let back : suc n - 1 ≡ n = omega arith in
    ap (λ t. cond t Default (cond (leb (suc n) 256) (Index (suc n - 1)) (Rgb ((suc n - 257) / 65536) ((suc n - 257) / 256 % 256) ((suc n - 257) % 256)))) some
    ∙ ap (λ t. cond t (Index (suc n - 1)) (Rgb ((suc n - 257) / 65536) ((suc n - 257) / 256 % 256) ((suc n - 257) % 256))) listed ∙ ap Index back
listed_back (Rgb r g b) h = cc

listed_few : (colour : Colour) → is_listed colour ≡ true → number_of colour ≤ 256
unfolding number_of
listed_few Default h = omega arith
listed_few (Index n) h = let few = leb-true n 255 h in omega (arith, few)
listed_few (Rgb r g b) h = cc

module _ (n : ℕ) (is : IsInkNumber n) where
  after_flag : (flag : Flag) (on : Bool) → Says (record { style = showing (Flagged flag on) (ink_numbered n).style; guarded = (ink_numbered n).guarded }) (number_in n (Flagged flag on))
  unfolding flags_of ink_numbered style_of
  after_flag Bold on =
      let part : bit_and n 2 ≡ n / 2 % 2 * 2 = and_part n 1 1 in
      let one = digit-one on in
      let digits = n % 512 - 2 * (n / 2 % 2) + 2 * digit on in
      says (record (ink_numbered n).style { bold = on }) (is_odd n) digits (n / 512 % 33554432) (n / 512 / 33554432) _
      (omega (arith, digits_back n, digit_back (n % 512 / 2))) refl refl
      (omega (arith, part, one)) (omega (arith, one)) is.foreground is.background
  after_flag Faint on =
      let part : bit_and n 4 ≡ n / 4 % 2 * 4 = and_part n 2 1 in
      let one = digit-one on in
      let digits = n % 512 - 4 * (n / 4 % 2) + 4 * digit on in
      says (record (ink_numbered n).style { faint = on }) (is_odd n) digits (n / 512 % 33554432) (n / 512 / 33554432) _
      (omega (arith, digits_back n, digit_back (n % 512 / 2 / 2))) refl refl
      (omega (arith, part, one)) (omega (arith, one)) is.foreground is.background
  after_flag Italic on =
      let part : bit_and n 8 ≡ n / 8 % 2 * 8 = and_part n 3 1 in
      let one = digit-one on in
      let digits = n % 512 - 8 * (n / 8 % 2) + 8 * digit on in
      says (record (ink_numbered n).style { italic = on }) (is_odd n) digits (n / 512 % 33554432) (n / 512 / 33554432) _
      (omega (arith, digits_back n, digit_back (n % 512 / 2 / 2 / 2))) refl refl
      (omega (arith, part, one)) (omega (arith, one)) is.foreground is.background
  after_flag Underline on =
      let part : bit_and n 16 ≡ n / 16 % 2 * 16 = and_part n 4 1 in
      let one = digit-one on in
      let digits = n % 512 - 16 * (n / 16 % 2) + 16 * digit on in
      says (record (ink_numbered n).style { underline = on }) (is_odd n) digits (n / 512 % 33554432) (n / 512 / 33554432) _
      (omega (arith, digits_back n, digit_back (n % 512 / 2 / 2 / 2 / 2))) refl refl
      (omega (arith, part, one)) (omega (arith, one)) is.foreground is.background
  after_flag Blink on =
      let part : bit_and n 32 ≡ n / 32 % 2 * 32 = and_part n 5 1 in
      let one = digit-one on in
      let digits = n % 512 - 32 * (n / 32 % 2) + 32 * digit on in
      says (record (ink_numbered n).style { blink = on }) (is_odd n) digits (n / 512 % 33554432) (n / 512 / 33554432) _
      (omega (arith, digits_back n, digit_back (n % 512 / 2 / 2 / 2 / 2 / 2))) refl refl
      (omega (arith, part, one)) (omega (arith, one)) is.foreground is.background
  after_flag Reverse on =
      let part : bit_and n 64 ≡ n / 64 % 2 * 64 = and_part n 6 1 in
      let one = digit-one on in
      let digits = n % 512 - 64 * (n / 64 % 2) + 64 * digit on in
      says (record (ink_numbered n).style { reverse = on }) (is_odd n) digits (n / 512 % 33554432) (n / 512 / 33554432) _
      (omega (arith, digits_back n, digit_back (n % 512 / 2 / 2 / 2 / 2 / 2 / 2))) refl refl
      (omega (arith, part, one)) (omega (arith, one)) is.foreground is.background
  after_flag Conceal on =
      let part : bit_and n 128 ≡ n / 128 % 2 * 128 = and_part n 7 1 in
      let one = digit-one on in
      let digits = n % 512 - 128 * (n / 128 % 2) + 128 * digit on in
      says (record (ink_numbered n).style { conceal = on }) (is_odd n) digits (n / 512 % 33554432) (n / 512 / 33554432) _
      (omega (arith, digits_back n, digit_back (n % 512 / 2 / 2 / 2 / 2 / 2 / 2 / 2))) refl refl
      (omega (arith, part, one)) (omega (arith, one)) is.foreground is.background
  after_flag Strike on =
      let part : bit_and n 256 ≡ n / 256 % 2 * 256 = and_part n 8 1 in
      let one = digit-one on in
      let digits = n % 512 - 256 * (n / 256 % 2) + 256 * digit on in
      says (record (ink_numbered n).style { strike = on }) (is_odd n) digits (n / 512 % 33554432) (n / 512 / 33554432) _
      (omega (arith, digits_back n, digit_back (n % 512 / 2 / 2 / 2 / 2 / 2 / 2 / 2 / 2))) refl refl
      (omega (arith, part, one)) (omega (arith, one)) is.foreground is.background

  after_light : Says (record { style = showing NeitherBoldNorFaint (ink_numbered n).style; guarded = (ink_numbered n).guarded }) (number_in n NeitherBoldNorFaint)
  unfolding flags_of ink_numbered style_of digit
  after_light =
      let part : bit_and n 6 ≡ n / 2 % 4 * 2 = and_part n 1 2 in
      let digits = n % 512 - 2 * (n / 2 % 4) in
      says (record (ink_numbered n).style { bold = false; faint = false }) (is_odd n) digits (n / 512 % 33554432) (n / 512 / 33554432) _
      (omega (arith, digits_back n, digit_back (n % 512 / 2), digit_back (n % 512 / 2 / 2))) refl refl
      (omega (arith, part)) (omega arith) is.foreground is.background

  after_front : (colour : Colour) → is_listed colour ≡ true
      → Says (record { style = showing (Front colour) (ink_numbered n).style; guarded = (ink_numbered n).guarded }) (number_in n (Front colour))
  unfolding flags_of ink_numbered style_of
  after_front colour h =
      let part : bit_and n 17179868672 ≡ n / 512 % 33554432 * 512 = and_part n 9 25 in
      let few = listed_few colour h in
      says (record (ink_numbered n).style { foreground = colour }) (is_odd n) (n % 512) (number_of colour) (n / 512 / 33554432) _
      (sym (digits_back n)) (listed_back colour h) refl (omega (arith, part)) (omega arith) (omega (arith, few)) is.background

  after_back : (colour : Colour) → is_listed colour ≡ true
      → Says (record { style = showing (Back colour) (ink_numbered n).style; guarded = (ink_numbered n).guarded }) (number_in n (Back colour))
  unfolding flags_of ink_numbered style_of
  after_back colour h =
      let part : bit_and n 576460735123554304 ≡ n / 17179869184 % 33554432 * 17179869184 = and_part n 34 25 in
      let few = listed_few colour h in
      let high = is.background in
      says (record (ink_numbered n).style { background = colour }) (is_odd n) (n % 512) (n / 512 % 33554432) (number_of colour) _
      (sym (digits_back n)) refl (listed_back colour h) (omega (arith, part, high)) (omega arith) is.foreground (omega (arith, few))

  after_plain : Says (record { style = showing Plain (ink_numbered n).style; guarded = (ink_numbered n).guarded }) (number_in n Plain)
  unfolding flags_of digit colour_of ink_numbered
  after_plain =
      let part : bit_and n 576460752303423486 ≡ n / 2 % 288230376151711744 * 2 = and_part n 1 58 in
      let high = is.background in
      let digits = digit (is_odd n) in
      says default_style (is_odd n) digits 0 0 _ (omega arith) refl refl
      (omega (arith, part, high, digit_back n)) (omega (arith, digit-one (is_odd n))) (omega arith) (omega arith)

  after_unchanged : Says (record { style = (ink_numbered n).style; guarded = (ink_numbered n).guarded }) (number_in n Unchanged)
  unfolding ink_numbered
  after_unchanged =
      let same : n - bit_and n 0 + 0 ≡ n = omega (arith, and_zero_r n) in
      let high = is.background in
      record { value = ap ink_numbered same; number = subst IsInkNumber (sym same) is; few = omega (arith, same, high) }

  pub after_aspect : (e : Aspect) → is_aspect e ≡ true → Says (record { style = showing e (ink_numbered n).style; guarded = (ink_numbered n).guarded }) (number_in n e)
  after_aspect Unchanged h = after_unchanged
  after_aspect Plain h = after_plain
  after_aspect (Flagged flag on) h = after_flag flag on
  after_aspect NeitherBoldNorFaint h = after_light
  after_aspect (Front colour) h = after_front colour h
  after_aspect (Back colour) h = after_back colour h

  pub says_so : (mask digits : ℕ) (e : Aspect) → is_aspect e ≡ true → mask ≡ mask_of e → digits ≡ digits_of e
      → Says (record { style = showing e (ink_numbered n).style; guarded = (ink_numbered n).guarded }) (n - bit_and n mask + digits)
  says_so mask digits e h m d =
      subst (λ k. Says (record { style = showing e (ink_numbered n).style; guarded = (ink_numbered n).guarded }) (n - bit_and n k + digits)) (sym m)
      (subst (λ k. Says (record { style = showing e (ink_numbered n).style; guarded = (ink_numbered n).guarded }) (n - bit_and n (mask_of e) + k)) (sym d)
      (after_aspect e h))
