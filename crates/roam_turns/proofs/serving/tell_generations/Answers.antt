use Rattle.std.proofs.Common.{◌≡◌, ◌-◌, ◌+◌, suc, arith}
use Rattle.roam_turns.specs.Parts.{Each}
use Rattle.roam_turns.specs.Turns.{TellsGeneration}
use Rattle.roam_turns.proofs.Making.{until_start, until_more, until_done, each_one_more, each_none}
use Rattle.roam_turns.proofs.serving.tell_generations.Goals as goal

pub loop-number-init : goal.loop-number-init
loop-number-init g c = until_start g.C.ServerCore.step (Each TellsGeneration 1 9)

pub loop-number-preserved : goal.loop-number-preserved
loop-number-preserved g c =
    let at = c.loop-number.number in
    let e : 10 - at ≡ suc (10 - (at + 1)) = omega arith in
    until_more g.C.ServerCore.step (Each TellsGeneration 1 9) (Each TellsGeneration at (10 - at)) (Each TellsGeneration (at + 1) (10 - (at + 1)))
    (TellsGeneration at)
    c.loop-number.invariant c.tell_generation.ensures.tells (each_one_more TellsGeneration at (10 - (at + 1)) (10 - at) e)

pub returns : goal.returns
returns g c =
    let at = c.loop-number.number in
    let e : 10 - at ≡ 0 = omega arith in
    record {
      tells =
          until_done g.C.ServerCore.step (Each TellsGeneration 1 9) (Each TellsGeneration at (10 - at)) c.loop-number.invariant
          (each_none TellsGeneration at (10 - at) e);
    }
