-- A number has one spelling in decimals, and which scalar value digits write.
use Rattle.std.proofs.Common.{◌≡◌, ℕ, zero, suc, ◌+◌, ◌/◌, ◌%◌, ◌^◌, ◌<◌, ◌≤◌, Bool, true, false, cond, eqb, leb, ◌&&◌, List, [], ◌∷◌, length, Option, Some, None, ℤ, pos, negsuc, neg_ℤ, refl, sym, ap, subst, ◌∙◌, arith, lit<, lit≤}
use Rattle.std.proofs.Math.Nat.{pow-suc}
use Rattle.std.proofs.lemmas.Bool.{and_parts, eq-eqb}
use Rattle.std.proofs.lemmas.Bool.Decides.{nat_tests}
use Rattle.std.proofs.lemmas.Fmt.{decimal_is_IsNumeral, parse-signed_decimal, IsAscii-signed}
use Rattle.std.proofs.lemmas.Nat.{div_below}
use Rattle.std.proofs.lemmas.Slice.Eq.{bytes_eq-Decides}
use Rattle.std.proofs.lemmas.Str.{IsUtf8-from_ascii}
use Rattle.std.proofs.lemmas.Str.Parse.{digit_at, without_leading_plus_none}
use Rattle.std.specs.Char.{IsScalar}
use Rattle.std.specs.Fmt.{decimal, digits, digit_glyph, digits_onto, signed_decimal}
use Rattle.std.specs.Int.{w16}
use Rattle.std.specs.Prelude.{FitsSigned, Result, Ok, Err}
use Rattle.std.specs.Result.{MatchResult, result_ok}
use Rattle.std.specs.Str.{bytes_eq, IsUtf8}
use Rattle.std.specs.Str.Parse.{IsNumeral, ParsesSigned, digits_value, signed_digits_value, starts_with_minus, without_leading_plus}
use lib.Signed.{mag, le_z}
use lib.Utf8.{scalar}
use Rattle.roam_tokens.specs.Numbers.{id_in}
use Rattle.roam_tokens.proofs.Spelled.{id_again, id_found}
use Rattle.roam_acts.specs.Lines.{IsHexadecimal}
use Rattle.roam_acts.specs.Reading.{is_integer, integer_in, only_scalar, scalar_in}

-- ---- decimals

no_sign : (ds : List ℕ) → IsNumeral 10 ds → signed_digits_value 10 ds ≡ pos (digits_value 10 ds)
no_sign ds num =
    let first = digit_at ds 0 num.1 num.0 in
    let plain : without_leading_plus ds ≡ ds = without_leading_plus_none ds (λ e. absurd (omega (arith, first.0, e))) in
    let minus : starts_with_minus ds ≡ false = grind (arith, nat_tests, first.0) in
    rw (minus, plain) refl

value_of : (z : ℤ) → mag z < 2 ^ 63 → signed_digits_value 10 (signed_decimal z) ≡ z
value_of (pos n) small =
    let num = decimal_is_IsNumeral n (omega arith) in
    no_sign (decimal n) num.0 ∙ ap pos num.1
value_of (negsuc n) small =
    let num = decimal_is_IsNumeral (suc n) (omega arith) in
    ap (λ (k : ℕ). neg_ℤ (pos k)) num.1

mag_small : (z : ℤ) → FitsSigned w16 z → mag z < 2 ^ 63
mag_small z fits = omega (arith, fits.sfits)

is_integer-fits : (z : ℤ) → FitsSigned w16 z → (le_z (negsuc 32767) z && le_z z (pos 32767)) ≡ true
is_integer-fits (pos n) fits = let small = fits.sfits in grind (arith, nat_tests, small)
is_integer-fits (negsuc n) fits = let small = fits.sfits in grind (arith, nat_tests, small)

fits-is_number : (z : ℤ) → (le_z (negsuc 32767) z && le_z z (pos 32767)) ≡ true → FitsSigned w16 z
fits-is_number (pos n) e = record { sfits = grind (arith, nat_tests, e) }
fits-is_number (negsuc n) e = record { sfits = grind (arith, nat_tests, e) }

is_number_true : (z : ℤ) (text : List ℕ) → is_integer z text ≡ true → FitsSigned w16 z × (text ≡ signed_decimal z)
is_number_true z text e =
    let both = and_parts (le_z (negsuc 32767) z && le_z z (pos 32767)) (bytes_eq (signed_decimal z) text) e in
    (fits-is_number z both.0, sym ((bytes_eq-Decides (signed_decimal z) text).0 both.1))

true_is_number : (z : ℤ) → FitsSigned w16 z → is_integer z (signed_decimal z) ≡ true
true_is_number z fits =
    let same : bytes_eq (signed_decimal z) (signed_decimal z) ≡ true = (bytes_eq-Decides (signed_decimal z) (signed_decimal z)).1 refl in
    rw (is_integer-fits z fits, same) refl

chosen_some : {X : Type 0} (b : Bool) (x y : X) → cond b (Some x) None ≡ Some y → (b ≡ true) × (x ≡ y)
chosen_some true x y e = (refl, cc)
chosen_some false x y e = absurd cc

pub number_again : (z : ℤ) → FitsSigned w16 z → integer_in (signed_decimal z) ≡ Some z
number_again z fits =
    let text = signed_decimal z in
    let value = value_of z (mag_small z fits) in
    ap (λ (v : ℤ). cond (is_integer v text) (Some v) None) value ∙ ap (λ (b : Bool). cond b (Some z) None) (true_is_number z fits)

pub number_found : (text : List ℕ) (z : ℤ) → integer_in text ≡ Some z → FitsSigned w16 z × (text ≡ signed_decimal z)
number_found text z e =
    let v = signed_digits_value 10 text in
    let both = chosen_some (is_integer v text) v z e in
    subst (λ (x : ℤ). FitsSigned w16 x × (text ≡ signed_decimal x)) both.1 (is_number_true v text both.0)

pub no_number : (text : List ℕ) → ((z : ℤ) → FitsSigned w16 z → text ≡ signed_decimal z → ⊥) → integer_in text ≡ None
no_number text h = by (is_integer (signed_digits_value 10 text) text) refl
  where
    by : (b : Bool) → is_integer (signed_digits_value 10 text) text ≡ b → cond b (Some (signed_digits_value 10 text)) None ≡ None
    by true e = let both = is_number_true (signed_digits_value 10 text) text e in absurd (h (signed_digits_value 10 text) both.0 both.1)
    by false e = refl

-- bytes that are no text are no number
pub no_text : {S E : Type 0} (text : List ℕ) (r : Result S E) (P : S → Type 0) (Q : E → Type 0) → None ≡ result_ok r → MatchResult r P (λ e. (¬ (IsUtf8 text)) × Q e) → integer_in text ≡ None
no_text text (Ok s) P Q none h = absurd cc
no_text text (Err e) P Q none h =
    no_number text (λ z fits is. h.0 (subst IsUtf8 (sym is) (IsUtf8-from_ascii (signed_decimal z) (IsAscii-signed z (mag_small z fits)))))

-- text that doesn't parse is no number
pub no_parse : {E : Type 0} (text : List ℕ) (r : Result ℤ E) → None ≡ result_ok r → ParsesSigned w16 10 text r → integer_in text ≡ None
no_parse text r none parses =
    no_number text (λ z fits is. let ok = parse-signed_decimal w16 z text r fits (mag_small z fits) is parses in absurd cc)

-- ---- hexadecimal digits

pub scalar_again : (text : List ℕ) (c : ℕ) → IsScalar c → IsHexadecimal text c → scalar_in text ≡ Some c
scalar_again text c is h =
    let short : leb (length text) 6 ≡ true = grind (arith, nat_tests, h.1) in
    let id : id_in text ≡ Some c = id_again text c (record { digits = h.0; most = omega (arith, h.1); value = h.2 }) in
    rw (short, id, is) refl

pub scalar_found : (text : List ℕ) (c : ℕ) → scalar_in text ≡ Some c → IsScalar c × IsHexadecimal text c
scalar_found text c e = by (leb (length text) 6) (id_in text) refl refl e
  where
    by : (b : Bool) (o : Option ℕ) → leb (length text) 6 ≡ b → id_in text ≡ o → cond b (only_scalar o) None ≡ Some c
        → IsScalar c × IsHexadecimal text c
    by true None short at f = absurd cc
    by true (Some v) short at f =
        let both = chosen_some (scalar v) v c f in
        let is = id_found text v at in
        let few : length text ≤ 6 = grind (arith, nat_tests, short) in
        (sym (ap scalar both.1) ∙ both.0, (is.1.digits, few, is.1.value ∙ both.1))
    by false o short at f = absurd cc

-- the digits that are written for a scalar value

shorter : (b : Bool) (xs ys : List ℕ) (most : ℕ) → length xs ≤ most → length ys ≤ most → length (cond b xs ys) ≤ most
shorter true xs ys most p q = p
shorter false xs ys most p q = q

none_left : (n : ℕ) (xs ys : List ℕ) → n < 16 → cond (eqb (n / 16) 0) xs ys ≡ xs
none_left n xs ys lt = let zero_left : eqb (n / 16) 0 ≡ true = eq-eqb (n / 16) 0 (omega arith) in rw zero_left refl

onto_short : (m k n : ℕ) (acc : List ℕ) → m ≤ k → n < 16 ^ suc m → length (digits_onto (suc k) 16 false n acc) ≤ suc m + length acc
onto_short zero k n acc le lt =
    let glyph = digit_glyph false (n % 16) in
    let small : n < 16 = lt in
    rw (none_left n (glyph ∷ acc) (digits_onto k 16 false (n / 16) (glyph ∷ acc)) small) (omega arith)
onto_short (suc m) zero n acc le lt = absurd (omega arith)
onto_short (suc m) (suc k) n acc le lt =
    let glyph = digit_glyph false (n % 16) in
    let fewer : n / 16 < 16 ^ suc m = div_below n 16 (16 ^ suc m) (lit< tt) (subst (λ (x : ℕ). n < x) (pow-suc 16 (suc m)) lt) in
    let rest : length (digits_onto (suc k) 16 false (n / 16) (glyph ∷ acc)) ≤ suc m + length (glyph ∷ acc) = onto_short m k (n / 16) (glyph ∷ acc) (omega arith) fewer in
    shorter (eqb (n / 16) 0) (glyph ∷ acc) (digits_onto (suc k) 16 false (n / 16) (glyph ∷ acc)) (suc (suc m) + length acc) (omega arith) (omega (arith, rest))

pub digits_short : (c : ℕ) → c < 16777216 → length (digits 16 false c) ≤ 6
unfolding digits
digits_short c lt = onto_short 5 63 c [] (lit≤ tt) (omega arith)
