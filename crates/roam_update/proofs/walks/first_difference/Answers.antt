use Rattle.std.proofs.Common.{◌≡◌, sym, ap, ◌∙◌, arith}
use Rattle.roam_cells.specs.Glyph.{Glyph}
use Rattle.roam_cells.specs.Place.{row_of}
use Rattle.roam_update.proofs.Walking.{along}
use Rattle.roam_update.proofs.walks.first_difference.Goals as goal

pub returns-then-found-cols-clause-skipped : goal.returns-then-found-cols-clause-skipped
returns-then-found-cols-clause-skipped g c =
    let base = (g.B.Seen.screen c.args.base.now).cells in
    let cells = (g.S.Seen.screen c.args.shot.now).cells in
    let row = c.loop-row.row in
    let cols = c.cols-cols.result in
    along (λ (a b : Glyph). a ≡ b) cols row base cells c.row.result.now c.row-in-loop-row.result.now
    (c.row.ensures.row ∙ ap (λ n. row_of n base row) (c.requires.size.cols ∙ sym c.cols-cols.ensures.cols))
    (c.row-in-loop-row.ensures.row ∙ ap (λ n. row_of n cells row) (sym c.cols-cols.ensures.cols))
    c.args.from c.loop-row.col c.next_difference-found.result (omega (arith, c.if-found-cols.true)) c.loop-row.invariant.skipped c.next_difference-found.ensures.skipped

pub loop-row-preserved : goal.loop-row-preserved
loop-row-preserved g c =
    let base = (g.B.Seen.screen c.args.base.now).cells in
    let cells = (g.S.Seen.screen c.args.shot.now).cells in
    let row = c.loop-row.row in
    let cols = c.cols-cols.result in
    let all = along (λ (a b : Glyph). a ≡ b) cols row base cells c.row.result.now c.row-in-loop-row.result.now
    (c.row.ensures.row ∙ ap (λ n. row_of n base row) (c.requires.size.cols ∙ sym c.cols-cols.ensures.cols))
    (c.row-in-loop-row.ensures.row ∙ ap (λ n. row_of n cells row) (sym c.cols-cols.ensures.cols))
    c.args.from c.loop-row.col cols (omega arith) c.loop-row.invariant.skipped
    (λ k p q. c.next_difference-found.ensures.skipped k p (omega (arith, q, c.if-found-cols.false))) in
    record {
      high = omega (arith, c.loop-row-test.true);
      inside = omega (arith, c.loop-row.invariant.inside);
      low = omega (arith, c.loop-row.invariant.low, c.loop-row.invariant.inside);
      skipped = λ k p q. all k p (omega (arith, q));
    }
