use Rattle.std.proofs.Common.{◌∙◌, ◌-◌, cond, sym, ap, arith}
use Rattle.roam_grid.specs.Tabs.{stop_before}
use Rattle.roam_grid.proofs.Stops.{before_step, before_first}
use Rattle.roam_grid.proofs.tabs.stop_before.Goals as goal

pub returns-then-stops-at-clause-stop : goal.returns-then-stops-at-clause-stop
returns-then-stops-at-clause-stop c =
    let l = c.loop-at in
    let stops = c.args.stops.now in
    sym (sym l.invariant.stop ∙ before_step l.at stops c.loop-at-test.true ∙ ap (λ b. cond b (l.at - 1) (stop_before (l.at - 1) stops)) c.if-stops-at.true)

pub loop-at-preserved : goal.loop-at-preserved
loop-at-preserved c =
    let l = c.loop-at in
    let stops = c.args.stops.now in
    record {
      inside = omega (arith, l.invariant.inside);
      stop =
          sym (before_step l.at stops c.loop-at-test.true ∙ ap (λ b. cond b (l.at - 1) (stop_before (l.at - 1) stops)) c.if-stops-at.false)
          ∙ l.invariant.stop;
    }

pub returns-clause-stop : goal.returns-clause-stop
returns-clause-stop c = sym (sym c.loop-at.invariant.stop ∙ before_first c.loop-at.at c.args.stops.now (omega (arith, c.loop-at-test.false)))
