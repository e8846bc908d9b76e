use Rattle.std.proofs.Common.{rules}
use Rattle.roam_serve.proofs.server_ports.ServerPorts.rest.Goals as goal

pub returns-clause-flushed : goal.returns-clause-flushed
returns-clause-flushed g c = record {
  mid = c.flush.new.self;
  keeps = rw (c.flush.ensures.flushed) c.flush.ensures.keeps;
  accepts = search rules;
  noted = search rules;
}
