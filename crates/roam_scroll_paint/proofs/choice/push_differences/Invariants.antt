use Rattle.std.proofs.Common.{◌≡◌, ◌<◌, ℕ, length}
use Rattle.std.specs.Prelude.{slice_index_or}
use Rattle.roam_cells.specs.Place.{row_of}
use Rattle.roam_scroll_paint.proofs.choice.push_differences.Given as goal

abbrev pub invariant-loop-row : goal.invariant-loop-row
invariant-loop-row g l =
    let old = g.O.Seen.screen l.old in
    let new = g.N.Seen.screen l.new in
    (length l.costs.items ≡ l.row)
    × ((k : ℕ) → k < l.row → slice_index_or l.costs.items k 1 ≡ 0 → row_of old.cols old.cells k ≡ row_of new.cols new.cells k)
