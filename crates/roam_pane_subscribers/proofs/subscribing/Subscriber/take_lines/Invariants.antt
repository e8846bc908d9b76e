use Rattle.roam_pane_subscribers.specs.Asking.{IsAsked}
use Rattle.roam_pane_subscribers.specs.Subscribing.{Replies}
use Rattle.roam_pane_subscribers.proofs.subscribing.Subscriber.take_lines.Given as goal

abbrev pub invariant-loop : goal.invariant-loop
invariant-loop g l = record {
  asked : IsAsked l.now l.moment l.initial.closer l.closer;
  replies : Replies l.initial.self l.self;
}
