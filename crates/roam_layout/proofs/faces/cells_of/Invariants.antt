use Rattle.std.proofs.Common.{◌≡◌, ◌+◌, ◌<◌, ℕ}
use Rattle.roam_cells.specs.Place.{table, IsWholeRow, AreUnguarded}
use Rattle.roam_screens.specs.Screenshot.{Screenshot}
use Rattle.roam_layout.specs.Faces.{face_at, face_row, Show}
use Rattle.roam_layout.proofs.faces.cells_of.Given as goal

abbrev pub invariant-loop-above : goal.invariant-loop-above
invariant-loop-above l = record {
  cells : (picture : ℕ → Screenshot) → Show picture l.shots
      → l.cells.items ≡ table l.above l.layout.cols (λ r c. face_at l.layout picture (r + 1) (c + 1));
  whole : (picture : ℕ → Screenshot) → Show picture l.shots → (r : ℕ) → r < l.above → IsWholeRow (face_row l.layout picture (r + 1));
  unguarded : (picture : ℕ → Screenshot) → Show picture l.shots → (r : ℕ) → r < l.above → AreUnguarded (face_row l.layout picture (r + 1));
}
