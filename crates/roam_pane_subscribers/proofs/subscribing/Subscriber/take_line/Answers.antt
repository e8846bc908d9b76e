use Rattle.roam_pane_subscribers.proofs.subscribing.Subscriber.take_line.Goals as goal

pub returns-clause-takes : goal.returns-clause-takes
returns-clause-takes g c = λ h.
    let came = c.read_line.ensures.came in
    (c.read_line.new.self, came.0, came.1, came.2, c.read_line.ensures.waiting, c.do_first.ensures.takes h)
