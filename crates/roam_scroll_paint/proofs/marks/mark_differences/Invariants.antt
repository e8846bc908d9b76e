use Rattle.std.proofs.Common.{◌≡◌, ◌<◌, ℕ, false, not}
use Rattle.std.specs.Prelude.{slice_index_or}
use Rattle.roam_cells.specs.Place.{glyph_at}
use Rattle.roam_cells.specs.Same.{same}
use Rattle.roam_scroll_paint.proofs.marks.mark_differences.Given as goal

abbrev pub invariant-loop-col : goal.invariant-loop-col
invariant-loop-col l =
    ((c : ℕ) → c < l.col → slice_index_or l.marks c false ≡ false → glyph_at l.over c ≡ glyph_at l.cells c)
    × ((c : ℕ) → c < l.col → slice_index_or l.marks c false ≡ not (same (glyph_at l.over c) (glyph_at l.cells c)))
