use Rattle.std.proofs.Common.{map, take}
use Rattle.roam_scrollback.specs.Lines.{Writes, left_of}
use Rattle.roam_scrollback.proofs.lines.LeftLines.push_texts.Given as goal

abbrev pub invariant-loop-row : goal.invariant-loop-row
invariant-loop-row l = Writes l.initial.self l.self (map left_of (take l.row-index l.rows))
