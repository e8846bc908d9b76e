use Rattle.std.proofs.Common.{◌≡◌, ℕ, ◌<◌, ◌≤◌, ◌⊎◌, cond, length, get_or}
use Rattle.roam_cells.specs.Glyph.{blank}
use Rattle.roam_rows.proofs.erasing.erase_unguarded.Given as goal

abbrev pub invariant-loop-c : goal.invariant-loop-c
invariant-loop-c l = record {
  high : l.c ≤ l.to;
  len : length l.row ≡ length l.initial.row;
  inside : (k : ℕ) → l.from ≤ k → k < l.c → get_or l.row k blank ≡ cond (get_or l.initial.row k blank).guarded (get_or l.initial.row k blank) blank;
  outside : (k : ℕ) → (k < l.from) ⊎ (l.c ≤ k) → get_or l.row k blank ≡ get_or l.initial.row k blank;
}
