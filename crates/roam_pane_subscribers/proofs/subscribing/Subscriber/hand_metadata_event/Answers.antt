use Rattle.std.proofs.Common.{refl}
use Rattle.roam_pane_subscribers.proofs.subscribing.Subscriber.hand_metadata_event.Goals as goal

pub returns : goal.returns
returns g c = record {
  hands = record {
    count = c.hand.ensures.took.0;
    then = record c.args.self.now { program = c.hand.new.program; metadata_event = c.hand.new.self };
    waits = c.hand.ensures.took.1;
    wrote = c.hand.ensures.took.2;
    metadata_event = c.hand.ensures.others;
    others = refl;
    goes = c.go_on.ensures.goes;
  };
}
