use Rattle.std.proofs.Common.{◌∙◌, ◌-◌, sym, ap, arith}
use Rattle.roam_grid.specs.Tabs.{stops_back}
use Rattle.roam_grid.proofs.Stops.{back_step, back_none, back_first}
use Rattle.roam_grid.proofs.tabs.stops_back.Goals as goal

pub loop-left-preserved : goal.loop-left-preserved
loop-left-preserved c =
    let l = c.loop-left in
    let a = c.args in
    record {
      inside = omega (arith, c.stop_before-at.ensures.inside, l.invariant.inside);
      stop =
          ap (stops_back (l.left - 1) a.stops.now) c.stop_before-at.ensures.stop
          ∙ sym (back_step l.left l.at a.stops.now c.loop-left-test.true) ∙ l.invariant.stop;
    }

pub returns-else-at-gt0-clause-stop : goal.returns-else-at-gt0-clause-stop
returns-else-at-gt0-clause-stop c =
    sym (sym c.loop-left.invariant.stop ∙ back_first c.loop-left.left c.loop-left.at c.args.stops.now (omega (arith, c.if-at-gt0.false)))

pub returns-after-loop-left-clause-stop : goal.returns-after-loop-left-clause-stop
returns-after-loop-left-clause-stop c =
    sym (sym c.loop-left.invariant.stop ∙ back_none c.loop-left.left c.loop-left.at c.args.stops.now (omega (arith, c.loop-left-test.false)))
