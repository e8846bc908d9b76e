use Rattle.std.proofs.Common.{◌≡◌, length}
use Rattle.roam_sockets.specs.Clients.{numbers_of, queues_of}
use Rattle.roam_sockets.proofs.Turning.{HaveNone}
use Rattle.roam_sockets.proofs.clients.receive_from.Given as goal

abbrev pub invariant-loop-step : goal.invariant-loop-step
invariant-loop-step l = record {
  numbers : numbers_of l.all ≡ numbers_of l.initial.all;
  queues : queues_of l.all ≡ queues_of l.initial.all;
  count : length l.all ≡ length l.initial.all;
  none : HaveNone (length l.initial.all) l.all l.first l.step;
}
