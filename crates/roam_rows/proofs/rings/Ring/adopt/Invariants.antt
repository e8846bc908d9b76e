use Rattle.std.proofs.Common.{◌≡◌, ℕ, ◌+◌, ◌<◌, ◌≤◌}
use Rattle.roam_cells.specs.Glyph.{blank}
use Rattle.roam_cells.specs.Place.{cell_at}
use Rattle.roam_rows.specs.Vertical.{IsSameShape, cut_at_edge}
use Rattle.roam_rows.proofs.rings.Ring.adopt.Given as goal

abbrev pub invariant-loop-row : goal.invariant-loop-row
invariant-loop-row l = record {
  shape : IsSameShape l.initial.ring l.ring;
  taken : (r c : ℕ) → r < l.row → c < l.initial.ring.cols → cell_at l.initial.ring.cols l.ring.cells r c ≡ cut_at_edge l.initial.ring.cols l.self.cols l.self.cells (r + l.off) c;
  rest : (r c : ℕ) → l.row ≤ r → r < l.initial.ring.rows → c < l.initial.ring.cols → cell_at l.initial.ring.cols l.ring.cells r c ≡ blank;
}
