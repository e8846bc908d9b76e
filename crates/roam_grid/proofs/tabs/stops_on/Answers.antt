use Rattle.std.proofs.Common.{◌∙◌, ◌-◌, sym, ap, arith}
use Rattle.roam_grid.specs.Tabs.{stops_on}
use Rattle.roam_grid.proofs.Stops.{on_step, on_none, on_last}
use Rattle.roam_grid.proofs.tabs.stops_on.Goals as goal

pub loop-left-preserved : goal.loop-left-preserved
loop-left-preserved c =
    let l = c.loop-left in
    let a = c.args in
    record {
      inside = c.next_stop-at.ensures.inside;
      stop =
          ap (stops_on (l.left - 1) a.last a.stops.now) c.next_stop-at.ensures.stop
          ∙ sym (on_step l.left a.last l.at a.stops.now c.loop-left-test.true) ∙ l.invariant.stop;
    }

pub returns-else-at-last-clause-stop : goal.returns-else-at-last-clause-stop
returns-else-at-last-clause-stop c =
    sym (sym c.loop-left.invariant.stop ∙ on_last c.loop-left.left c.args.last c.loop-left.at c.args.stops.now (omega (arith, c.if-at-last.false)))

pub returns-after-loop-left-clause-stop : goal.returns-after-loop-left-clause-stop
returns-after-loop-left-clause-stop c =
    sym (sym c.loop-left.invariant.stop ∙ on_none c.loop-left.left c.args.last c.loop-left.at c.args.stops.now (omega (arith, c.loop-left-test.false)))
