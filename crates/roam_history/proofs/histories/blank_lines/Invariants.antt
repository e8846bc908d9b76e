use Rattle.std.proofs.Common.{◌≡◌, replicate}
use Rattle.circular_buffer.specs.Buffer.{buffer}
use Rattle.roam_cells.specs.Glyph.{blank}
use Rattle.roam_history.proofs.histories.blank_lines.Given as goal

abbrev pub invariant-loop : goal.invariant-loop
invariant-loop l = l.ring ≡ buffer (replicate l.counter (replicate l.cols blank)) l.lines
