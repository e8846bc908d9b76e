use Rattle.std.proofs.Common.{length, ◌-◌, ◌≡◌, ℕ, ◌≤◌, ◌<◌}
use Rattle.roam_cells.specs.Place.{glyph_at}
use Rattle.roam_update.proofs.runs.next_difference.Given as goal

abbrev pub invariant-loop-place : goal.invariant-loop-place
invariant-loop-place l =
    record {
      low : l.from ≤ l.place;
      high : l.place ≤ length l.cells;
      skipped : (k : ℕ) → l.from ≤ k → k < l.place → glyph_at l.base k ≡ glyph_at l.cells k;
    }

abbrev pub decreases-loop-place : goal.decreases-loop-place
decreases-loop-place l = length l.cells - l.place
