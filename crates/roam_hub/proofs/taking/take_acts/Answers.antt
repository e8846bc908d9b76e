use Rattle.std.proofs.Common.{arith, sym, ◌∙◌}
use Rattle.roam_hub.proofs.Doing.{done_first, done_more, done_stopped, done_all, at_none}
use Rattle.roam_hub.proofs.taking.take_acts.Goals as goal

pub returns-then-is_some-clause-acts : goal.returns-then-is_some-clause-acts
returns-then-is_some-clause-acts c size log st =
    done_stopped size log c.args.client c.args.acts.now c.loop-act.act-index c.loop-act.taken _ c.loop-act.session
    c.perform-stopped.new.session
    c.perform-stopped.result c.loop-act-test.true c.loop-act.invariant.taken (c.loop-act.invariant.done size log st)
    (sym c.is_some.ensures ∙ c.if-is_some.true)
    (λ l s. c.perform-stopped.ensures.full size l s) c.perform-stopped.ensures.same

pub loop-act-init : goal.loop-act-init
loop-act-init c = record { taken = omega arith; taker = omega arith; done = λ size log st. done_first size log _ _ _ st }

pub returns-clause-acts : goal.returns-clause-acts
returns-clause-acts c size log st =
    done_all size log c.args.client c.args.acts.now c.loop-act.act-index c.loop-act.taken c.loop-act.session c.loop-act-test.false
    c.loop-act.auto.act-index-end c.loop-act.invariant.taken (c.loop-act.invariant.done size log st)

pub loop-act-preserved : goal.loop-act-preserved
loop-act-preserved c =
    let none = sym c.is_some.ensures ∙ c.if-is_some.false in
    record {
      taken = (let t = c.loop-act.invariant.taken in omega (arith, t));
      taker = (let t = c.loop-act.invariant.taker in omega (arith, t, c.took.ensures.took));
      done =
          λ size log st.
          done_more size log c.args.client c.args.acts.now c.loop-act.act-index _ c.loop-act.session c.perform-stopped.new.session
          c.loop-act-test.true (c.loop-act.invariant.done size log st)
          (at_none c.perform-stopped.result _ none c.perform-stopped.ensures.done)
          (at_none c.perform-stopped.result _ none c.perform-stopped.ensures.free size);
    }
