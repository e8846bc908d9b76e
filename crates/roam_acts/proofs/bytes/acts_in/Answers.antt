use Rattle.std.proofs.Common.{refl, inr, sym, subst, ◌+◌, ◌∙◌}
use Rattle.std.proofs.lemmas.Bool.{eqb-true, eqb-false}
use Rattle.roam_acts.proofs.Texts.{SoFar, sofar_next, sofar_none, sofar_left, sofar_whole, has_first}
use Rattle.roam_acts.proofs.bytes.acts_in.Goals as goal

pub returns-in_default-clause-acts : goal.returns-in_default-clause-acts
returns-in_default-clause-acts c =
    inr (refl, sofar_none c.args.count c.loop.counter c.args.bytes.now c.loop.rest.now c.loop.acts.items c.loop-test.true c.in_default.ensures.act c.loop.invariant.so_far)

pub loop-preserved : goal.loop-preserved
loop-preserved c =
    let next = sofar_next c.args.count c.loop.counter c.args.bytes.now c.loop.rest.now c.in-Some.more.now c.loop.acts.items c.in-Some.act c.loop-test.true c.in-Some.ensures.act c.loop.invariant.so_far in
    record {
      so_far = subst (λ acts. SoFar c.args.count c.args.bytes.now (c.loop.counter + 1) acts c.in-Some.more.now) (sym c.in_ok-push.ensures.items) next;
      first =
          inr (has_first c.args.bytes.now c.loop.rest.now c.in-Some.more.now c.loop.counter c.in-Some.act c.in-Some.ensures.act
          c.loop.invariant.first);
    }

pub returns-then-not-is_empty-clause-acts : goal.returns-then-not-is_empty-clause-acts
returns-then-not-is_empty-clause-acts c =
    inr (refl, sofar_left c.args.count c.loop.counter c.args.bytes.now c.loop.rest.now c.loop.acts.items c.loop-test.false (eqb-false _ _ (sym c.is_empty.ensures ∙ c.if-not-is_empty.true)) c.loop.invariant.so_far)

pub returns-clause-acts : goal.returns-clause-acts
returns-clause-acts c =
    sofar_whole c.args.count c.loop.counter c.args.bytes.now c.loop.rest.now c.loop.acts.items c.loop-test.false (eqb-true _ _ (sym c.is_empty.ensures ∙ c.if-not-is_empty.false)) c.loop.invariant.so_far
