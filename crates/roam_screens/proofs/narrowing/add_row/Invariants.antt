use Rattle.std.proofs.Common.{◌≡◌, ◌++◌, map}
use Rattle.std.specs.List.{range_with_len}
use Rattle.roam_screens.specs.Narrow.{narrow_at}
use Rattle.roam_screens.proofs.narrowing.add_row.Given as goal

abbrev pub invariant-loop-col : goal.invariant-loop-col
invariant-loop-col g l = l.cells.items ≡ l.fn.cells.items ++ map (narrow_at (g.S.Seen.screen l.shot) l.row) (range_with_len 0 l.col)
