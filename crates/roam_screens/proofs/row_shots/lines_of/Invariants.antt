use Rattle.std.proofs.Common.{◌≡◌, ℕ, ◌<◌, [], length, get_or}
use Rattle.roam_cells.specs.Place.{row_of}
use Rattle.roam_screens.proofs.row_shots.lines_of.Given as goal

abbrev pub invariant-loop-row : goal.invariant-loop-row
invariant-loop-row g l =
    let s = g.S.Seen.screen l.shot in
    record {
      count : length l.lines.items ≡ l.row;
      each : (r : ℕ) → r < l.row → get_or l.lines.items r [] ≡ row_of s.cols s.cells r;
    }
