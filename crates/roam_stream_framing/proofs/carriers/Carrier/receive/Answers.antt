use Rattle.std.proofs.Common.{◌≡◌, ap, subst, sym}
use Rattle.roam_stream_framing.specs.Carriers.{Receives}
use Rattle.roam_stream_framing.proofs.Carrying.{open_before, received}
use Rattle.roam_stream_framing.proofs.carriers.Carrier.receive.Goals as goal

pub returns-clause-receives : goal.returns-clause-receives
returns-clause-receives g c = λ h.
    let before = open_before c.read_on.new.self.over c.give.new.self.over c.give.ensures.stays h in
    let stream : c.give.new.self.stream ≡ c.read_on.new.self.stream = ap (λ t. t.stream) c.give.ensures.others in
    subst (λ s. Receives (g.S.Stream.remaining c.args.self.now.stream) (g.S.Stream.remaining s) c.args.self.now.frames
    c.give.new.self.frames c.give.result c.give.new.buf) (sym stream)
    (received _ _ _ _ _ _ _ (c.read_on.ensures.came before) (c.give.ensures.given h))

pub returns-clause-stays : goal.returns-clause-stays
returns-clause-stays g c = λ h. c.give.ensures.stays (c.read_on.ensures.asks.stays h)
