use Rattle.std.proofs.Common.{◌∷◌, subst, sym}
use Rattle.std.specs.List.{AllZip}
use Rattle.roam_terminal_input.specs.Lines.{IsFirst}
use Rattle.roam_pane_subscribers.specs.Subscribing.{IsTold}
use Rattle.roam_pane_subscribers.proofs.Asked.{asked_more, still_none}
use Rattle.roam_pane_subscribers.proofs.Telling.{told_by}
use Rattle.roam_pane_subscribers.proofs.subscribing.+tell_each.Goals as goal

pub returns-then-tell_each-clause-told : goal.returns-then-tell_each-clause-told
returns-then-tell_each-clause-told g t c =
    subst (λ olds. AllZip (IsTold g.S.Stream.contents c.args.now.now) olds (c.tell.new.self ∷ c.tell_each.new.all)) (sym c.in-Some.ensures.cases.0)
    (told_by _ _ _ _ _ _ c.take_lines-may_ask.ensures.replies c.tell.ensures.tells, c.tell_each.ensures.told)

pub returns-then-tell_each-clause-asked : goal.returns-then-tell_each-clause-asked
returns-then-tell_each-clause-asked g t c = asked_more _ _ _ _ _ c.take_lines-may_ask.ensures.asked c.tell_each.ensures.asked

pub returns-else-tell_each-clause-told : goal.returns-else-tell_each-clause-told
returns-else-tell_each-clause-told g t c =
    subst (λ olds. AllZip (IsTold g.S.Stream.contents c.args.now.now) olds (c.tell.new.self ∷ c.tell_each.new.all)) (sym c.in-Some.ensures.cases.0)
    (told_by _ _ _ _ _ _ c.take_lines-may_ask.ensures.replies c.tell.ensures.tells, c.tell_each.ensures.told)

pub returns-else-tell_each-clause-asked : goal.returns-else-tell_each-clause-asked
returns-else-tell_each-clause-asked g t c = asked_more _ _ _ _ _ c.take_lines-may_ask.ensures.asked c.tell_each.ensures.asked

pub returns-else-tell_each-clause-done : goal.returns-else-tell_each-clause-done
returns-else-tell_each-clause-done g t c = λ h none.
    let still = still_none _ _ c.tell_each.ensures.asked.busy none in (
      λ line rest is. c.take_lines-may_ask.ensures.done h still line rest (subst (λ k. IsFirst k.kept line rest) c.tell.ensures.lines is),
      c.tell_each.ensures.done c.if-tell_each.false none,
    )
