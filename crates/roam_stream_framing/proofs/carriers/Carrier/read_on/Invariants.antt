use Rattle.std.proofs.Common.{◌≡◌, ◌≤◌, false, length}
use Rattle.roam_stream_framing.specs.Carriers.{Came}
use Rattle.roam_stream_framing.specs.Streams.{Asks, MayEndReading}
use Rattle.roam_stream_framing.proofs.carriers.Carrier.read_on.Given as goal

abbrev pub invariant-loop : goal.invariant-loop
invariant-loop g l = record {
  queue : l.self.queue ≡ l.initial.self.queue;
  came : l.self.over ≡ false → Came (g.S.Stream.remaining l.initial.self.stream) (g.S.Stream.remaining l.self.stream) l.initial.self.frames l.self.frames;
  long : l.counter ≤ length l.self.frames;
  asks : Asks MayEndReading (g.S.Stream.answers l.initial.self.stream) (g.S.Stream.answers l.self.stream) l.initial.self.over l.self.over;
}
