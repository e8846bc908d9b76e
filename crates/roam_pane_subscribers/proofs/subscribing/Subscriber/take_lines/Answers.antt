use Rattle.std.proofs.Common.{◌∙◌, ap, rules, subst, sym}
use Rattle.roam_pane_subscribers.specs.Asking.{HasNoLine, IsAsked}
use Rattle.roam_pane_subscribers.specs.Subscribing.{Replies}
use Rattle.roam_pane_subscribers.proofs.Asked.{asked_more}
use Rattle.roam_pane_subscribers.proofs.Telling.{both_said}
use Rattle.roam_pane_subscribers.proofs.subscribing.Subscriber.take_lines.Goals.{then-not-is_free-via-then-not-is_free, then-not-is_free-via-else-not-is_free+then-not-take_line}
use Rattle.roam_pane_subscribers.proofs.subscribing.Subscriber.take_lines.Goals as goal

pub returns-then-not-is_free-clause-replies : goal.returns-then-not-is_free-clause-replies
returns-then-not-is_free-clause-replies g c = elim c.then-not-is_free.branch [
  | then-not-is_free-via-then-not-is_free w ↦ subst (λ f. Replies c.args.self.now f) (sym w.self-is) c.loop.invariant.replies
  | then-not-is_free-via-else-not-is_free+then-not-take_line w ↦ subst (λ f. Replies c.args.self.now f) (sym w.self-is)
      (both_said _ _ _ c.loop.invariant.replies w.take_line.ensures.replies)
]

pub returns-then-not-is_free-clause-asked : goal.returns-then-not-is_free-clause-asked
returns-then-not-is_free-clause-asked g c = elim c.then-not-is_free.branch [
  | then-not-is_free-via-then-not-is_free w ↦
      subst (λ k. IsAsked c.args.now.now c.args.moment c.args.closer.now k) (sym w.closer-is) c.loop.invariant.asked
  | then-not-is_free-via-else-not-is_free+then-not-take_line w ↦
      subst (λ k. IsAsked c.args.now.now c.args.moment c.args.closer.now k) (sym w.closer-is)
      (asked_more _ _ _ _ _ c.loop.invariant.asked w.take_line.ensures.asked)
]

pub loop-preserved : goal.loop-preserved
loop-preserved g c = record {
  asked = asked_more _ _ _ _ _ c.loop.invariant.asked c.take_line.ensures.asked;
  replies = both_said _ _ _ c.loop.invariant.replies c.take_line.ensures.replies;
}

pub returns-then-not-is_free-clause-done : goal.returns-then-not-is_free-clause-done
returns-then-not-is_free-clause-done g c = elim c.then-not-is_free.branch [
  | then-not-is_free-via-then-not-is_free w ↦ λ h none.
      let free = c.is_free.ensures.free.1 (ap (λ k. k.closing) (sym w.closer-is) ∙ none) in
      let busy = w.if-not-is_free.true in
      absurd (search rules)
  | then-not-is_free-via-else-not-is_free+then-not-take_line w ↦ λ h none.
      subst (λ f. HasNoLine f) (sym w.self-is) (w.take_line.ensures.done w.if-not-take_line.true)
]
