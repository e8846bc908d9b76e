use Rattle.std.proofs.Common.{◌≡◌}
use Rattle.std.specs.Io.KnownBytes.{Keeps}
use Rattle.roam_outer_terminal.specs.Terminals.{Reads}
use Rattle.roam_outer_terminal.proofs.terminal.Terminal.read_line.Given as goal

abbrev pub invariant-loop : goal.invariant-loop
invariant-loop g l = record {
  apart : Keeps (g.S.Write.contents l.initial.self.stream) (g.S.Write.contents l.self.stream);
  others : l.self ≡ record l.initial.self { stream = l.self.stream; lines = l.self.lines; state = l.self.state };
  reads : Reads (g.S.Read.remaining l.initial.self.stream) (g.S.Read.remaining l.self.stream) l.initial.self.lines.kept
      l.self.lines.kept l.self.state;
}
