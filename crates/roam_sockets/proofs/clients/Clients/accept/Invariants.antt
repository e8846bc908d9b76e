use Rattle.std.proofs.Common.{length, ◌≡◌, ◌≤◌, ◌<◌, ◌^◌}
use Rattle.roam_sockets.specs.Clients.{Accepts, HaveCome, most_peers}
use Rattle.roam_sockets.proofs.clients.Clients.accept.Given as goal

abbrev pub invariant-loop : goal.invariant-loop
invariant-loop l = record {
  accepts : Accepts l.initial.self l.self;
  came : HaveCome l.initial.self l.self;
  others : l.self ≡ record l.initial.self { all = l.self.all; last = l.self.last };
  flushed : l.self.is_flushed ≡ l.initial.self.is_flushed;
  few : length l.initial.self.all.items ≤ most_peers → length l.self.all.items ≤ most_peers;
  numbers : l.initial.self.last < 2 ^ 40 → l.self.last < 2 ^ 40;
}
