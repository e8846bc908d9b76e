use Rattle.std.proofs.Common.{sym, ◌∙◌, arith}
use Rattle.roam_pane_metadata.proofs.Runs.{still-on}
use Rattle.roam_pane_metadata.proofs.silence.near_run.Goals as goal

pub loop-at-preserved : goal.loop-at-preserved
loop-at-preserved c =
    let less = c.loop-at-test.true in (
      omega (arith, less),
      still-on c.args.piece.now c.loop-at.at less (sym c.is_still.ensures.still ∙ c.if-is_still.true) c.loop-at.invariant.1,
    )
