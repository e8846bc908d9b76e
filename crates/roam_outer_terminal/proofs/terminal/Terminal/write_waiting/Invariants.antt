use Rattle.std.proofs.Common.{◌≡◌, ◌≤◌, length}
use Rattle.std.specs.Io.KnownBytes.{Keeps}
use Rattle.roam_stream_framing.specs.Carriers.{Writes}
use Rattle.roam_outer_terminal.specs.Writing.{has_gone}
use Rattle.roam_outer_terminal.proofs.terminal.Terminal.write_waiting.Given as goal

abbrev pub invariant-loop : goal.invariant-loop
invariant-loop g l = record {
  apart : Keeps (g.S.Read.remaining l.initial.self.stream) (g.S.Read.remaining l.self.stream);
  fewer : length l.self.waiting ≤ length l.initial.self.waiting;
  gone : l.has_taken ≡ has_gone l.initial.self.waiting l.self.waiting;
  on : l.self.state ≡ l.initial.self.state;
  others : l.self ≡ record l.initial.self { stream = l.self.stream; waiting = l.self.waiting; state = l.self.state };
  writes : Writes (g.S.Write.contents l.initial.self.stream) (g.S.Write.contents l.self.stream) l.initial.self.waiting l.self.waiting;
}
