use Rattle.std.proofs.Common.{◌≡◌, ℕ, ◌+◌, ◌<◌, ◌≤◌}
use Rattle.roam_cells.specs.Place.{row_of}
use Rattle.roam_screens.specs.Screenshot.{Screenshot}
use Rattle.roam_layout.specs.Faces.{face_row, Show}
use Rattle.roam_layout.proofs.kept.put_marked.Given as goal

abbrev pub invariant-loop-row : goal.invariant-loop-row
invariant-loop-row g l =
    record {
      same : l.shot ≡ record l.fn.shot { cells = l.shot.cells };
      done : (picture : ℕ → Screenshot) → Show picture (g.P.Pictures.shots l.pictures) → (r : ℕ) → r < l.row
          → row_of l.layout.cols l.shot.cells r ≡ face_row l.layout picture (r + 1);
      left : (r : ℕ) → l.row ≤ r → r < l.layout.rows → row_of l.layout.cols l.shot.cells r ≡ row_of l.layout.cols l.fn.shot.cells r;
    }
