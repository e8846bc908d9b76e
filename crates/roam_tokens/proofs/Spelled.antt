-- A number has one spelling in decimals, and which id digits write.
use Rattle.std.proofs.Common.{◌≡◌, ℕ, ◌+◌, ◌*◌, ◌^◌, ◌<◌, ◌≤◌, Bool, true, false, cond, leb, ◌&&◌, List, [], ◌∷◌, length, get_or, take, Some, None, refl, sym, ap, subst, ◌∙◌, arith, lit<, add-one}
use Rattle.std.proofs.Math.Nat.{pow-le-pow_right, pow-suc}
use Rattle.std.proofs.lemmas.Bool.{and_parts}
use Rattle.std.proofs.lemmas.Bool.Decides.{nat_tests}
use Rattle.std.proofs.lemmas.Fmt.{decimal_is_IsNumeral, parse-decimal, IsAscii-decimal}
use Rattle.std.proofs.lemmas.Int.Digits.{digits_value_more, digits_value-lt}
use Rattle.std.proofs.lemmas.List.Folds.{list_all_more}
use Rattle.std.proofs.lemmas.Slice.Eq.{bytes_eq-Decides}
use Rattle.std.proofs.lemmas.Str.{IsUtf8-from_ascii}
use Rattle.std.proofs.lemmas.Str.Parse.{digit_at, without_leading_plus_none}
use Rattle.std.specs.Char.{digit_value}
use Rattle.std.specs.Fmt.{decimal}
use Rattle.std.specs.List.{list_all}
use Rattle.std.specs.Prelude.{Result, Ok, Err}
use Rattle.std.specs.Result.{MatchResult, result_ok}
use Rattle.std.specs.Str.{bytes_eq, IsUtf8}
use Rattle.std.specs.Str.Parse.{AllDigits, ParsesUnsigned, digits_value, without_leading_plus}
use Rattle.roam_tokens.specs.Numbers.{IsId, id_in, is_hexadecimal, is_number, number_in}

pub chosen_some : {X : Type 0} (b : Bool) (x y : X) → cond b (Some x) None ≡ Some y → (b ≡ true) × (x ≡ y)
chosen_some true x y e = (refl, cc)
chosen_some false x y e = absurd cc

-- ---- decimals

value_of_decimal : (n : ℕ) → n < 2 ^ 64 → digits_value 10 (without_leading_plus (decimal n)) ≡ n
value_of_decimal n small =
    let num = decimal_is_IsNumeral n small in
    let first = digit_at (decimal n) 0 num.0.1 num.0.0 in
    let plain : without_leading_plus (decimal n) ≡ decimal n = without_leading_plus_none (decimal n) (λ e. absurd (omega (
      arith,
      first.0,
      e,
    ))) in
    rw plain num.1

is_number_true : (most n : ℕ) (text : List ℕ) → is_number most n text ≡ true → (n ≤ most) × (text ≡ decimal n)
is_number_true most n text e =
    let both = and_parts (leb n most) (bytes_eq (decimal n) text) e in
    (grind (arith, nat_tests, both.0), sym ((bytes_eq-Decides (decimal n) text).0 both.1))

true_is_number : (most n : ℕ) → n ≤ most → is_number most n (decimal n) ≡ true
true_is_number most n le =
    let same : bytes_eq (decimal n) (decimal n) ≡ true = (bytes_eq-Decides (decimal n) (decimal n)).1 refl in
    let low : leb n most ≡ true = grind (arith, nat_tests, le) in
    rw (low, same) refl

pub number_again : (most n : ℕ) → n ≤ most → n < 2 ^ 64 → number_in most (decimal n) ≡ Some n
number_again most n le small =
    let text = decimal n in
    ap (λ (v : ℕ). cond (is_number most v text) (Some v) None) (value_of_decimal n small)
    ∙ ap (λ (b : Bool). cond b (Some n) None) (true_is_number most n le)

pub number_found : (most : ℕ) (text : List ℕ) (n : ℕ) → number_in most text ≡ Some n → (n ≤ most) × (text ≡ decimal n)
number_found most text n e =
    let v = digits_value 10 (without_leading_plus text) in
    let both = chosen_some (is_number most v text) v n e in
    subst (λ (x : ℕ). (x ≤ most) × (text ≡ decimal x)) both.1 (is_number_true most v text both.0)

no_number : (most : ℕ) (text : List ℕ) → ((n : ℕ) → n ≤ most → text ≡ decimal n → ⊥) → number_in most text ≡ None
no_number most text h = by (is_number most (digits_value 10 (without_leading_plus text)) text) refl
  where
    by : (b : Bool) → is_number most (digits_value 10 (without_leading_plus text)) text ≡ b
        → cond b (Some (digits_value 10 (without_leading_plus text))) None ≡ None
    by true e = let both = is_number_true most (digits_value 10 (without_leading_plus text)) text e in absurd (h (digits_value 10
        (without_leading_plus text)) both.0 both.1)
    by false e = refl

-- bytes that are no text are no number
pub no_text : {S E : Type 0} (most : ℕ) (text : List ℕ) (r : Result S E) (P : S → Type 0) (Q : E → Type 0) → most < 2 ^ 64
    → None ≡ result_ok r → MatchResult r P (λ e. (¬ (IsUtf8 text)) × Q e) → number_in most text ≡ None
no_text most text (Ok s) P Q small none h = absurd cc
no_text most text (Err e) P Q small none h =
    no_number most text (λ n le is. h.0 (subst IsUtf8 (sym is) (IsUtf8-from_ascii (decimal n) (IsAscii-decimal n (omega (
      arith,
      le,
      small,
    ))))))

-- text that doesn't parse is no number
pub no_parse : {E : Type 0} (most : ℕ) (text : List ℕ) (r : Result ℕ E) → most < 2 ^ 64 → None ≡ result_ok r
    → ParsesUnsigned 64 10 text r → number_in most text ≡ None
no_parse most text r small none parses =
    no_number most text (λ n le is. let ok = parse-decimal 64 n text r (omega (arith, le, small)) (omega (arith, le, small)) is parses in
    absurd cc)

-- ---- hexadecimal digits

pub small_power : (i : ℕ) → i ≤ 15 → 16 ^ i ≤ 1152921504606846976
small_power i le = pow-le-pow_right {n = 16} (lit< tt) le

all_digits : (text : List ℕ) → AllDigits 16 text → list_all is_hexadecimal text ≡ true
all_digits [] h = refl
all_digits (d ∷ text) h = let rest = all_digits text h.1 in grind (arith, nat_tests, h.0)

digits_all : (text : List ℕ) → list_all is_hexadecimal text ≡ true → AllDigits 16 text
digits_all [] e = tt
digits_all (d ∷ text) e =
    let both = and_parts (is_hexadecimal d) (list_all is_hexadecimal text) e in
    (grind (arith, nat_tests, both.0), digits_all text both.1)

pub id_again : (text : List ℕ) (id : ℕ) → IsId text id → id_in text ≡ Some id
id_again text id h =
    let value : digits_value 16 text ≡ id = h.value in
    let long : leb 1 (length text) ≡ true = grind (arith, nat_tests, h.digits.0) in
    let short : leb (length text) 16 ≡ true = grind (arith, nat_tests, h.most) in
    let hex : list_all is_hexadecimal text ≡ true = all_digits text h.digits.1 in
    rw (long, short, hex, value) refl

-- one more digit
pub value_more : (text : List ℕ) (i n d : ℕ) → i < length text → n ≡ digits_value 16 (take i text) → d ≡ digit_value (get_or text i 0)
    → n * 16 + d ≡ digits_value 16 (take (i + 1) text)
value_more text i n d lt is digit = (λ k. is k * 16 + digit k) ∙ sym (digits_value_more 16 text i lt)

pub hexadecimal_more : (text : List ℕ) (i d : ℕ) → i < length text → list_all is_hexadecimal (take i text) ≡ true
    → d ≡ digit_value (get_or text i 0) → d < 16 → list_all is_hexadecimal (take (i + 1) text) ≡ true
hexadecimal_more text i d lt all digit small =
    let here : is_hexadecimal (get_or text i 0) ≡ true = grind (arith, nat_tests, digit, small) in
    list_all_more is_hexadecimal text i 0 lt ∙ (λ k. all k && here k)

pub power_more : (i n d : ℕ) → n < 16 ^ i → d < 16 → n * 16 + d < 16 ^ (i + 1)
power_more i n d lt small = let step : 16 ^ (i + 1) ≡ 16 ^ i * 16 = ap (λ (k : ℕ). 16 ^ k) (add-one i) ∙ pow-suc 16 i in omega (arith, step)

pub id_found : (text : List ℕ) (id : ℕ) → id_in text ≡ Some id → (id < 2 ^ 64) × IsId text id
id_found text id e =
    let v = digits_value 16 text in
    let whole = chosen_some (leb 1 (length text) && leb (length text) 16 && list_all is_hexadecimal text) v id e in
    let hex = and_parts (leb 1 (length text) && leb (length text) 16) (list_all is_hexadecimal text) whole.0 in
    let lens = and_parts (leb 1 (length text)) (leb (length text) 16) hex.0 in
    let low : 0 < length text = grind (arith, nat_tests, lens.0) in
    let high : length text ≤ 16 = grind (arith, nat_tests, lens.1) in
    let all = digits_all text hex.1 in
    let below = digits_value-lt 16 text all in
    let least : 16 ^ length text ≤ 16 ^ 16 = pow-le-pow_right {n = 16} (lit< tt) high in
    (omega (arith, below, least, whole.1), record { digits = (low, all); most = high; value = whole.1 })
