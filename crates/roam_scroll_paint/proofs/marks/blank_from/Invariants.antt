use Rattle.std.proofs.Common.{◌≡◌, ◌<◌, ◌≤◌, ℕ, length}
use Rattle.roam_cells.specs.Glyph.{blank}
use Rattle.roam_cells.specs.Place.{glyph_at}
use Rattle.roam_scroll_paint.proofs.marks.blank_from.Given as goal

abbrev pub decreases-loop-from : goal.decreases-loop-from
decreases-loop-from l = l.from

abbrev pub invariant-loop-from : goal.invariant-loop-from
invariant-loop-from l = (l.from ≤ length l.cells) × ((c : ℕ) → l.from ≤ c → c < length l.cells → glyph_at l.cells c ≡ blank)
