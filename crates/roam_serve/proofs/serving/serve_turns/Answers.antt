use Rattle.roam_serve.proofs.Turning.{no_run, no_turns, run_more, turn_more, untold}
use Rattle.roam_serve.proofs.serving.serve_turns.Goals as goal

pub loop-init : goal.loop-init
loop-init g c = record { turns = no_turns _; runs = no_run _ _ _ _ _ _ }

pub loop-preserved : goal.loop-preserved
loop-preserved g c = record {
  turns = turn_more _ _ _ _ c.loop.invariant.turns (untold _ _ _ _ c.serve_turn.ensures.turn);
  runs =
      run_more _ _ _ _ _ _ _ _ _ _ _ _ _ c.loop.invariant.runs c.mend.ensures.mends c.mend.ensures.told c.serve_turn.ensures.turn
      c.follow.ensures.follows c.follow.ensures.told;
}
