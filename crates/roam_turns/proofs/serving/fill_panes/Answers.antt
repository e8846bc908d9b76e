use Rattle.std.proofs.Common.{◌≡◌, ◌-◌, ◌+◌, suc, arith}
use Rattle.roam_turns.specs.Parts.{Each}
use Rattle.roam_turns.specs.Turns.{FillsPane}
use Rattle.roam_turns.proofs.Making.{until_start, until_more, until_done, each_one_more, each_none}
use Rattle.roam_turns.proofs.serving.fill_panes.Goals as goal

pub loop-pane-init : goal.loop-pane-init
loop-pane-init g c = until_start g.C.ServerCore.step (Each FillsPane 1 9)

pub loop-pane-preserved : goal.loop-pane-preserved
loop-pane-preserved g c =
    let at = c.loop-pane.pane in
    let e : 10 - at ≡ suc (10 - (at + 1)) = omega arith in
    until_more g.C.ServerCore.step (Each FillsPane 1 9) (Each FillsPane at (10 - at)) (Each FillsPane (at + 1) (10 - (at + 1)))
    (FillsPane at)
    c.loop-pane.invariant c.fill_pane.ensures.fills (each_one_more FillsPane at (10 - (at + 1)) (10 - at) e)

pub returns : goal.returns
returns g c =
    let at = c.loop-pane.pane in
    let e : 10 - at ≡ 0 = omega arith in
    record {
      fills =
          until_done g.C.ServerCore.step (Each FillsPane 1 9) (Each FillsPane at (10 - at)) c.loop-pane.invariant
          (each_none FillsPane at (10 - at) e);
    }
