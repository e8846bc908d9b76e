use Rattle.std.proofs.Common.{◌≡◌, ◌<◌, ◌≤◌, get_or, arith, rules}
use Rattle.std.specs.Char.{digit_value}
use Rattle.roam_tokens.proofs.Spelled.{hexadecimal_more, power_more, small_power, value_more}
use Rattle.roam_tokens.proofs.numbers.id.Goals as goal

pub overflow_mul-number : goal.overflow_mul-number
overflow_mul-number c =
    let i = c.loop-digit.digit-index in
    let le : i ≤ 15 = omega arith in
    omega (arith, small_power i le, c.loop-digit.invariant.small)

pub overflow_add-number : goal.overflow_add-number
overflow_add-number c =
    let i = c.loop-digit.digit-index in
    let le : i ≤ 15 = omega arith in
    let d : c.in_ok-number.field-0 < 16 = search rules in
    omega (arith, small_power i le, c.loop-digit.invariant.small)

pub loop-digit-preserved : goal.loop-digit-preserved
loop-digit-preserved c =
    let i = c.loop-digit.digit-index in
    let text = c.args.text.now in
    let d = c.in_ok-number.field-0 in
    let small : d < 16 = search rules in
    let is : d ≡ digit_value (get_or text i 0) = search rules in
    record {
      value = value_more text i c.loop-digit.number d c.loop-digit-test.true c.loop-digit.invariant.value is;
      digits = hexadecimal_more text i d c.loop-digit-test.true c.loop-digit.invariant.digits is small;
      small = power_more i c.loop-digit.number d c.loop-digit.invariant.small small;
    }
