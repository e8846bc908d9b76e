use Rattle.std.proofs.Common.{◌∙◌, ◌+◌, ◌-◌, cond, sym, ap, arith, rules}
use Rattle.roam_grid.specs.Tabs.{stop_from}
use Rattle.roam_grid.proofs.Stops.{from_step, from_none, next_inside}
use Rattle.roam_grid.proofs.tabs.next_stop.Goals as goal

pub returns-then-stops-at-clause-stop : goal.returns-then-stops-at-clause-stop
returns-then-stops-at-clause-stop c =
    let l = c.loop-at in
    let a = c.args in
    sym (next_inside a.last a.col a.stops.now (omega (arith, c.if-col-last.false)) ∙ sym l.invariant.stop
    ∙ from_step (a.last - l.at) l.at a.stops.now (omega (arith, c.loop-at-test.true))
    ∙ ap (λ b. cond b l.at (stop_from (a.last - l.at - 1) (l.at + 1) a.stops.now)) c.if-stops-at.true)

pub loop-at-preserved : goal.loop-at-preserved
loop-at-preserved c =
    let l = c.loop-at in
    let a = c.args in
    record {
      inside = omega (arith, c.loop-at-test.true);
      stop =
          ap (λ k. stop_from k (l.at + 1) a.stops.now) (omega (arith, c.loop-at-test.true))
          ∙ sym (from_step (a.last - l.at) l.at a.stops.now (omega (arith, c.loop-at-test.true))
          ∙ ap (λ b. cond b l.at (stop_from (a.last - l.at - 1) (l.at + 1) a.stops.now)) c.if-stops-at.false)
          ∙ l.invariant.stop;
    }

pub returns-clause-stop : goal.returns-clause-stop
returns-clause-stop c =
    let l = c.loop-at in
    let a = c.args in
    sym (next_inside a.last a.col a.stops.now (omega (arith, c.if-col-last.false)) ∙ sym l.invariant.stop
    ∙ from_none (a.last - l.at) l.at a.stops.now (omega (arith, c.loop-at-test.false)))

pub loop-at-init : goal.loop-at-init
loop-at-init c = search rules
