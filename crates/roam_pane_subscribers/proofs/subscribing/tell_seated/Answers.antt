use Rattle.roam_pane_subscribers.proofs.Seated.{each_told}
use Rattle.roam_pane_subscribers.proofs.subscribing.tell_seated.Goals as goal

pub returns-clause-told : goal.returns-clause-told
returns-clause-told g c =
    each_told g.S.Stream.contents c.args.now.now c.args.all.now _ c.seat_host.new.all c.seat_host.ensures.seated c.tell_each-may_ask.ensures.told
