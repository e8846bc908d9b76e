use Rattle.std.proofs.Common.{◌≡◌, ℕ, ◌+◌, ◌-◌, ◌*◌, ◌≤◌, ◌<◌}
use Rattle.roam_cells.specs.Place.{glyph_at}
use Rattle.roam_update.proofs.walks.first_same.Given as goal

abbrev pub invariant-loop-row : goal.invariant-loop-row
invariant-loop-row g l =
    record {
      high : l.row ≤ l.rows;
      inside : l.col < l.cols;
      low : l.from ≤ l.row * l.cols + l.col;
      skipped : (k : ℕ) → l.from ≤ k → k < l.row * l.cols + l.col → ¬ (glyph_at (g.B.Seen.screen l.base).cells k ≡ glyph_at (g.S.Seen.screen l.shot).cells k);
    }

abbrev pub decreases-loop-row : goal.decreases-loop-row
decreases-loop-row g l = l.rows - l.row
