use Rattle.std.proofs.Common.{◌≡◌, ◌<◌, ◌^◌, true, take}
use Rattle.std.specs.List.{list_all}
use Rattle.std.specs.Str.Parse.{digits_value}
use Rattle.roam_tokens.specs.Numbers.{is_hexadecimal}
use Rattle.roam_tokens.proofs.numbers.id.Given as goal

-- the digits so far, and the number that they write
abbrev pub invariant-loop-digit : goal.invariant-loop-digit
invariant-loop-digit l = record {
  value : l.number ≡ digits_value 16 (take l.digit-index l.text);
  digits : list_all is_hexadecimal (take l.digit-index l.text) ≡ true;
  small : l.number < 16 ^ l.digit-index;
}
