use Rattle.std.proofs.Common.{sym, ◌∙◌}
use Rattle.roam_pane_subscribers.specs.Querying.{quiet, tells}
use Rattle.roam_pane_subscribers.proofs.subscribing.Subscriber.tell_queries.Goals as goal

pub returns-then-is_clear : goal.returns-then-is_clear
returns-then-is_clear g c = record {
  tells = quiet (sym c.is_asked.ensures.asked ∙ c.if-not-is_asked.false) c.renew_queries.ensures.gives
      (c.is_clear.ensures.clear c.if-is_clear.true);
}

pub returns : goal.returns
returns g c = record {
  tells = tells (sym c.is_asked.ensures.asked ∙ c.if-not-is_asked.false) c.renew_queries.new.self c.renew_queries.ensures.gives
      c.hand_metadata_event.ensures.hands;
}
