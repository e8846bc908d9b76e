use Rattle.std.proofs.Common.{length, ap, arith}
use Rattle.roam_update.specs.Numbers.{styles_in}
use Rattle.roam_update.proofs.UsedUp.{count_one, number_at_most}
use Rattle.roam_update.proofs.numbers.add_numbered_cell.Goals as goal

pub add_short_number-requires : goal.add_short_number-requires
add_short_number-requires c =
    let s = c.args.cell.now.style in
    let old = styles_in c.args.numbers.now in
    let low = number_at_most (styles_in c.take_number.new.numbers) s in
    record { few = omega (arith, low, c.in_ok-number.ensures.number, ap length c.in_ok-number.ensures.styles, count_one old s, c.requires.few) }
