use Rattle.std.proofs.Common.{◌≡◌, ◌*◌, take}
use Rattle.roam_term.specs.Picture.{picture_with}
use Rattle.roam_term.proofs.pictures.shown_cells.Given as goal

abbrev pub invariant-loop-row : goal.invariant-loop-row
invariant-loop-row l = l.cells.items ≡ take (l.row * l.canvas.live.screen.cols) (picture_with l.v l.canvas.live l.history).cells
