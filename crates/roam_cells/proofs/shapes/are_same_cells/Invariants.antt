use Rattle.std.proofs.Common.{◌≡◌, ℕ, ◌<◌, get_or}
use Rattle.roam_cells.specs.Glyph.{blank}
use Rattle.roam_cells.proofs.shapes.are_same_cells.Given as goal

-- the cells before k are equal exactly if no difference was gathered
abbrev pub invariant-loop-k : goal.invariant-loop-k
invariant-loop-k l =
    (l.difference ≡ 0 → (k : ℕ) → k < l.k → get_or l.cells k blank ≡ get_or l.others k blank) × (l.cells ≡ l.others → l.difference ≡ 0)
