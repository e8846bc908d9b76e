use Rattle.std.proofs.Common.{◌≡◌, ◌++◌, ℕ, List}
use Rattle.roam_pane_subscribers.specs.Programs.{Heard}
use Rattle.roam_pane_subscribers.proofs.subscribing.Subscriber.read_line.Given as goal

abbrev pub invariant-loop : goal.invariant-loop
invariant-loop g l = record {
  came : (bytes : List ℕ) × (l.self.lines.kept ≡ l.initial.self.lines.kept ++ bytes)
      × Heard g.S.Stream.remaining l.initial.self.program.stream l.self.program.stream bytes;
  told : l.self.told ≡ l.initial.self.told;
  metadata : l.self.metadata_event ≡ l.initial.self.metadata_event;
  waiting : l.self.waiting ≡ l.initial.self.waiting;
}
