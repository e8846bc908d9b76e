use Rattle.std.proofs.Common.{ℕ, ◌<◌, get_or}
use Rattle.roam_cells.specs.Glyph.{IsShown, blank}
use Rattle.roam_cells.proofs.shapes.facts_of.Given as goal

abbrev pub invariant-loop-k : goal.invariant-loop-k
invariant-loop-k l = (k : ℕ) → k < l.k → IsShown (get_or l.cells k blank)
