use Rattle.std.proofs.Common.{◌≡◌, ◌+◌, ◌*◌, ◌/◌, ◌%◌, arith}
use Rattle.roam_cells.proofs.Words.{wide_says, kept_as, shown_as}
use Rattle.roam_cells.proofs.cells.Cell.keeping.Goals as goal

pub invariant_of-result : goal.invariant_of-result
invariant_of-result c =
    let count = c.args.count in
    let digit = c.digit.result in
    let number = c.number.result in
    let word = count + 4 * digit + 8 * number in
    let said : word % 4 ≡ count = omega (arith, c.requires.few) in
    let says : word / 4 ≡ digit + 2 * number = omega (arith, c.requires.few) in
    let shows : word / 8 ≡ number = omega (arith, c.requires.few, c.digit.ensures.one) in
    let has = c.requires in
    kept_as c.packed.result c.args.points count number word c.args.wide c.packed.ensures.places c.packed.ensures.scalars has.rest has.width has.text c.number.ensures.ink said
    (wide_says c.args.wide digit number word c.digit.ensures.digit says) shows

pub returns : goal.returns
returns c =
    let count = c.args.count in
    let digit = c.digit.result in
    let number = c.number.result in
    let word = count + 4 * digit + 8 * number in
    let said : word % 4 ≡ count = omega (arith, c.requires.few) in
    let shows : word / 8 ≡ number = omega (arith, c.requires.few, c.digit.ensures.one) in
    record { cell = shown_as c.packed.result c.args.points count number word c.args.ink c.packed.ensures.places said shows c.number.ensures.number }
