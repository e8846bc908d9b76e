use Rattle.roam_pane_metadata.proofs.Runs.{silent-lent, within-lent}
use Rattle.roam_pane_metadata.proofs.silence.silent_run.Goals as goal

pub returns-then-sequence-eq0-clause-silent : goal.returns-then-sequence-eq0-clause-silent
returns-then-sequence-eq0-clause-silent c =
    silent-lent c.loop-at.at c.still_run.result c.plain_sequence-sequence.result c.args.piece.now c.loop-at.invariant.1
    c.still_run.ensures.still c.plain_sequence-sequence.ensures.plain

pub loop-at-preserved : goal.loop-at-preserved
loop-at-preserved c = (
  within-lent c.loop-at.at c.still_run.result c.plain_sequence-sequence.result c.args.piece.now c.loop-at.invariant.0
      c.still_run.ensures.within c.plain_sequence-sequence.ensures.within,
  silent-lent c.loop-at.at c.still_run.result c.plain_sequence-sequence.result c.args.piece.now c.loop-at.invariant.1
      c.still_run.ensures.still c.plain_sequence-sequence.ensures.plain,
)
