use Rattle.std.proofs.Common.{◌≡◌, ◌++◌, map, take}
use Rattle.roam_term.specs.Picture.{shown_glyph}
use Rattle.roam_term.proofs.pictures.show_row.Given as goal

abbrev pub invariant-loop-cell : goal.invariant-loop-cell
invariant-loop-cell l = l.cells.items ≡ l.initial.cells.items ++ map (shown_glyph l.reversed) (take l.cell-index l.row)
