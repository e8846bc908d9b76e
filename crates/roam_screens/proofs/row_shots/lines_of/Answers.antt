use Rattle.std.proofs.Common.{◌≡◌, arith, length}
use Rattle.roam_screens.proofs.Lined.{rows_joined}
use Rattle.roam_screens.proofs.row_shots.lines_of.Goals as goal

pub returns-clause-cells : goal.returns-clause-cells
returns-clause-cells g c =
    let s = g.S.Seen.screen c.args.shot.now in
    let all : length c.loop-row.lines.items ≡ s.rows =
    omega (arith, c.loop-row.invariant.count, c.loop-row-test.false, c.loop-row.auto.row-end, c.rows-row-end.ensures.rows) in
    rows_joined s.rows s.cols s.cells c.facts.ensures.screenshot.count c.loop-row.lines.items all
    (λ r p. c.loop-row.invariant.each r (omega (arith, p, all, c.loop-row.invariant.count)))
