use Rattle.std.proofs.Common.{sym, ◌∙◌, arith}
use Rattle.roam_pane_metadata.proofs.Runs.{numbers-on}
use Rattle.roam_pane_metadata.proofs.silence.plain_sequence.Goals as goal

pub loop-at-preserved : goal.loop-at-preserved
loop-at-preserved c =
    let some = c.loop-at.invariant.0 in
    let less = c.loop-at-test.true in (
      omega (arith, some),
      omega (arith, less),
      numbers-on c.loop-at.at c.args.piece.now some less c.loop-at.invariant.2 (sym c.is_number.ensures.number ∙ c.if-is_number.true),
    )
