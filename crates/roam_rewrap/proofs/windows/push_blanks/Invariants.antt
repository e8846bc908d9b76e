use Rattle.std.proofs.Common.{◌≡◌, ◌++◌, replicate}
use Rattle.roam_cells.specs.Glyph.{blank}
use Rattle.roam_rewrap.proofs.windows.push_blanks.Given as goal

abbrev pub invariant-loop-k : goal.invariant-loop-k
invariant-loop-k l = l.cells.items ≡ l.initial.cells.items ++ replicate l._k blank
