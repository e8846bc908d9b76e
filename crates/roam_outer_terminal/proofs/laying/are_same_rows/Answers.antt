use Rattle.std.proofs.Common.{◌*◌, sym, ◌∙◌, arith}
use Rattle.roam_screens.proofs.Lined.{all_rows}
use Rattle.roam_outer_terminal.proofs.laying.are_same_rows.Goals as goal

pub returns : goal.returns
returns c =
    let one = c.args.one.now in
    let size = c.requires.size in
    record {
      same = λ _. all_rows one.rows one.cols one.cells c.args.other.now.cells c.facts.ensures.screenshot.count
          (c.facts-2.ensures.screenshot.count ∙ sym (λ i. size.rows i * size.cols i))
          (λ r p. c.loop-row.invariant r (omega (arith, p, c.loop-row-test.false, c.rows-row-end.ensures.rows)));
    }
