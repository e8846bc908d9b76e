use Rattle.std.proofs.Common.{refl, rules}
use Rattle.roam_pane_subscribers.proofs.closing.Closer.close.Goals as goal

pub returns-clause-closes : goal.returns-clause-closes
returns-clause-closes c = record {
  start = c.in_ok-client.client;
  is_start = search rules;
  sent = c.send_close.new.client;
  texts = c.in_ok-datagrams.datagrams;
  types = search rules;
  client = refl;
  others = c.pop.new.self.items;
  datagram = c.pop.ensures.items;
  some = search rules;
  closing = refl;
  session = search rules;
}
