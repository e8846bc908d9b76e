use Rattle.std.proofs.Common.{sym, ◌∙◌}
use Rattle.roam_pane_subscribers.specs.Clipping.{tells}
use Rattle.roam_pane_subscribers.proofs.subscribing.Subscriber.tell_clips.Goals as goal

pub returns : goal.returns
returns g c = record {
  tells = tells (sym c.wants_clips.ensures.wants ∙ c.if-not-wants_clips.false) c.renew_clips-gave.new.self c.renew_clips-gave.ensures.gives
      c.hand_metadata_event.ensures.hands;
}
