-- Numbers and ids as texts (this project's profile): decimals without a plus and without a leading zero, ids in hexadecimal digits.
use Rattle.std.specs.Prelude.{◌≡◌, ℕ, ◌≤◌, ◌&&◌, Bool, List, length, nat_le, nat_lt, Option, Some, None, decimal, if◌then◌else◌}
use Rattle.std.specs.Char.{digit_value}
use Rattle.std.specs.List.{list_all}
use Rattle.std.specs.Str.{bytes_eq}
use Rattle.std.specs.Str.Parse.{IsNumeral, digits_value, without_leading_plus}

-- an id in one to sixteen hexadecimal digits, in either case
pub record IsId (text : List ℕ) (id : ℕ) : Type 0 where
  pub digits : IsNumeral 16 text
  pub most : length text ≤ 16
  pub value : digits_value 16 text ≡ id

-- a number that is at most so great, and is written so and not otherwise
abbrev pub is_number : ℕ → ℕ → List ℕ → Bool
is_number most n text = nat_le n most && bytes_eq (decimal n) text

-- the number that a text writes
abbrev pub number_in : ℕ → List ℕ → Option ℕ
number_in most text =
    if is_number most (digits_value 10 (without_leading_plus text)) text then Some (digits_value 10 (without_leading_plus text)) else None

-- a hexadecimal digit
abbrev pub is_hexadecimal : ℕ → Bool
is_hexadecimal digit = nat_lt (digit_value digit) 16

-- the id that one to sixteen hexadecimal digits write
abbrev pub id_in : List ℕ → Option ℕ
id_in text = if nat_le 1 (length text) && nat_le (length text) 16 && list_all is_hexadecimal text then Some (digits_value 16 text) else None
