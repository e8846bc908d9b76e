use Rattle.std.proofs.Common.{◌≡◌, ◌∙◌, ◌+◌, ◌-◌, ◌*◌, ◌≤◌, ℕ, ap, arith, drop, length, length-drop, length-take}
use Rattle.roam_cells.specs.Place.{row_of}
use Rattle.roam_cells.proofs.Places.{row_from}
use Rattle.roam_rows.specs.Rows.{with_row}
use Rattle.roam_rows.specs.Editing.{deletion_source}
use Rattle.roam_rows.proofs.rings.Ring.delete.Goals as goal

pub returns : goal.returns
returns c =
    let a = c.args in
    let v = a.self.now in
    let last : (a.row + 1) * v.cols ≤ v.rows * v.cols + 0 = row_from v.cols (a.row + 1) v.rows 0 (omega (arith, c.requires.on_rows)) in
    let taken = length-take ((a.row + 1) * v.cols - a.row * v.cols) (drop (a.row * v.cols) v.cells) in
    let rest = length-drop (a.row * v.cols) v.cells in
    let size : length (row_of v.cols v.cells a.row) ≡ v.cols = omega (arith, taken, rest, c.facts.ensures.rows.size, last) in
    record { ring = c.change_row.ensures.ring ∙ ap (λ (n : ℕ). with_row a.row (deletion_source n a.col a.n) v) size }
