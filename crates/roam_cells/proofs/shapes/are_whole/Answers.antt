use Rattle.std.proofs.Common.{below_more, refl, rules, arith}
use Rattle.std.specs.Prelude.{IsTrue}
use Rattle.roam_cells.specs.Place.{cell_at, IsWholeAt, IsWholeLine}
use Rattle.roam_cells.proofs.shapes.are_whole.Goals as goal

pub loop-col-preserved : goal.loop-col-preserved
loop-col-preserved c =
    let yes : IsTrue c.is_whole_at.result = search rules in
    below_more (IsWholeAt c.args.cols (cell_at c.args.cols c.args.cells.now c.loop-row.row)) c.loop-col.col c.loop-col.invariant (c.is_whole_at.ensures.whole.0 yes)

pub loop-row-preserved : goal.loop-row-preserved
loop-row-preserved c =
    below_more (λ r. IsWholeLine c.args.cols (cell_at c.args.cols c.args.cells.now r)) c.loop-row.row c.loop-row.invariant (λ col q. c.loop-col.invariant col (omega arith))

pub returns : goal.returns
returns c = record { whole = (λ _ r p. c.loop-row.invariant r (omega arith), λ _. refl) }
