use Rattle.roam_pane_subscribers.proofs.subscribing.Subscriber.tell_metadata.Goals as goal

pub returns : goal.returns
returns g c = record {
  tells = record {
    mid = c.renew_metadata.new.self;
    renews = c.renew_metadata.ensures.renews;
    hands = c.hand_metadata_event.ensures.hands;
  };
}
