use Rattle.std.proofs.Common.{◌≡◌, ℕ, List, []}
use Rattle.std.specs.Io.KnownBytes.{Appends, Consumes}
use Rattle.roam_scrollback.specs.Lines.{no_lines}
use Rattle.roam_scrollback_stream.specs.Readings.{Reaches, reading_of}
use Rattle.roam_scrollback_stream.proofs.rows.read_all.Given as goal

abbrev pub invariant-loop : goal.invariant-loop
invariant-loop g l = record {
  none : l.tellings.lines ≡ no_lines;
  empty : l.tellings.out ≡ [];
  normalize : l.run.terminals.normalize ≡ l.initial.run.terminals.normalize;
  reached : (read : List ℕ) × (output : List ℕ) × Consumes (g.R.Read.remaining l.initial.reader) (g.R.Read.remaining l.reader) read
      × Appends (g.W.Write.contents l.initial.writer) (g.W.Write.contents l.writer) output
      × Reaches (reading_of l.run.terminals l.run.input) read output;
}
