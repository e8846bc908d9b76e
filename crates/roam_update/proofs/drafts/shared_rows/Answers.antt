use Rattle.std.proofs.Common.{◌≡◌, ◌<◌, length, subst, sym, arith}
use Rattle.roam_cells.specs.Place.{IsWholeRow}
use Rattle.roam_screens.proofs.Lined.{rows_joined}
use Rattle.roam_update.proofs.Slices.{row_whole}
use Rattle.roam_update.proofs.drafts.shared_rows.Goals as goal

pub shared-requires : goal.shared-requires
shared-requires c =
    let s = c.args.base.now in
    let is = c.facts.ensures.screenshot in
    let below : c.loop-row.row < s.rows = omega (arith, c.loop-row-test.true, c.rows-row-end.ensures.rows) in
    record { whole = subst IsWholeRow (sym c.line.ensures.line) (row_whole s.rows s.cols s.cells c.loop-row.row is.count is.whole below) }

pub returns-clause-cells : goal.returns-clause-cells
returns-clause-cells c =
    let s = c.args.base.now in
    let all : length c.loop-row.rows.items ≡ s.rows =
    omega (arith, c.loop-row.invariant.count, c.loop-row-test.false, c.loop-row.auto.row-end, c.rows-row-end.ensures.rows) in
    rows_joined s.rows s.cols s.cells c.facts.ensures.screenshot.count c.loop-row.rows.items all
    (λ r p. c.loop-row.invariant.each r (omega (arith, p, all, c.loop-row.invariant.count)))
