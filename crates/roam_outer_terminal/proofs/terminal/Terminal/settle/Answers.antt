use Rattle.std.proofs.Common.{subst}
use Rattle.roam_outer_terminal.specs.Writing.{Flushes}
use Rattle.roam_outer_terminal.proofs.terminal.Terminal.settle.Goals as goal

pub returns-clause-settles : goal.returns-clause-settles
returns-clause-settles g c = record {
  told = c.tell_silence.new.self;
  tells = c.tell_silence.ensures.tells;
  flushes = subst (λ m. Flushes g.S.Read.remaining g.S.Write.contents m c.tell_silence.new.self c.flush.new.self) c.moment.ensures.moment
      c.flush.ensures.flushes;
}
