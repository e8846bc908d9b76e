use Rattle.std.proofs.Common.{◌∙◌, ap, refl}
use Rattle.roam_sockets.specs.declared.clients.Clients.{Clients}
use Rattle.roam_sockets.proofs.Counting.{accepts_none, accepts_one, come_none, come_one}
use Rattle.roam_sockets.proofs.clients.Clients.accept.Goals as goal

pub loop-init : goal.loop-init
loop-init c = record { accepts = accepts_none c.args.self.now; came = come_none c.args.self.now; others = refl; flushed = refl; few = λ h. h; numbers = λ h. h }

pub loop-preserved : goal.loop-preserved
loop-preserved c = record {
  accepts = accepts_one _ _ _ c.loop.invariant.accepts c.take.ensures.one;
  came = come_one _ _ _ c.loop.invariant.came c.take.ensures.one;
  others = c.take.ensures.others
      ∙ ap (λ (clients : Clients). record clients { all = c.take.new.self.all; last = c.take.new.self.last }) c.loop.invariant.others;
  flushed = c.take.ensures.flushed ∙ c.loop.invariant.flushed;
  few = λ h. c.take.ensures.few (c.loop.invariant.few h);
  numbers = λ h. c.take.ensures.numbers (c.loop.invariant.numbers h);
}
