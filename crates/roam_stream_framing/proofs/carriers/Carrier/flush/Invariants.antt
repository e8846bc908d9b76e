use Rattle.std.proofs.Common.{◌≡◌, ◌<◌}
use Rattle.std.specs.Prelude.{IsOk}
use Rattle.roam_faults.specs.Streams.{IsStreamEnd}
use Rattle.roam_stream_framing.specs.Carriers.{Writes}
use Rattle.roam_stream_framing.specs.Streams.{Asks, HasAnswered}
use Rattle.roam_stream_framing.proofs.carriers.Carrier.flush.Given as goal

abbrev pub invariant-loop : goal.invariant-loop
invariant-loop g l = record {
  frames : l.self.frames ≡ l.initial.self.frames;
  writes : Writes (g.S.Stream.contents l.initial.self.stream) (g.S.Stream.contents l.self.stream) l.initial.self.queue.waiting
      l.self.queue.waiting;
  asks : Asks IsStreamEnd (g.S.Stream.answers l.initial.self.stream) (g.S.Stream.answers l.self.stream) l.initial.self.over l.self.over;
  went : 0 < l.counter → HasAnswered IsOk (g.S.Stream.answers l.initial.self.stream) (g.S.Stream.answers l.self.stream);
}
