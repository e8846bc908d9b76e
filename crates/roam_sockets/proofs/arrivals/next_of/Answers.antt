use Rattle.std.proofs.Common.{◌≡◌, None, rules, subst}
use Rattle.roam_sockets.specs.Arrivals.{Gives, of_other}
use Rattle.roam_sockets.proofs.arrivals.next_of.Goals as goal

pub returns-clause-gives : goal.returns-clause-gives
returns-clause-gives g c =
    let none : c.next_arrival.result ≡ None = search rules in
    of_other c.next_arrival.new.buf
    (subst (λ r. Gives (g.A.Arrivals.arrived c.args.one.now) (g.A.Arrivals.arrived c.next_arrival.new.self) c.next_arrival.new.buf r)
    none c.next_arrival.ensures.gives) c.next_arrival-2.ensures.gives
