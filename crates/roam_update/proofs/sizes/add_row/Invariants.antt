use Rattle.std.proofs.Common.{◌≡◌, ◌++◌, map}
use Rattle.std.specs.List.{range_with_len}
use Rattle.roam_update.specs.Sizes.{sized_at}
use Rattle.roam_update.proofs.sizes.add_row.Given as goal

abbrev pub invariant-loop-col : goal.invariant-loop-col
invariant-loop-col g l = l.cells.items ≡ l.fn.cells.items ++ map (sized_at l.cols (g.B.Seen.screen l.base) l.row) (range_with_len 0 l.col)
