use Rattle.std.proofs.Common.{◌≡◌, ◌-◌, ◌++◌, map, replicate, take}
use Rattle.roam_cells.specs.Limits.{most_rows}
use Rattle.roam_scrollback.specs.Wraps.{wrap_of}
use Rattle.roam_scrollback.specs.declared.wraps.Wrap.TheVariants.{Ends}
use Rattle.roam_scrollback.proofs.wraps.Wraps.of.Given as goal

abbrev pub invariant-loop-i : goal.invariant-loop-i
invariant-loop-i l = l.wraps ≡ map (wrap_of l.cols) (take l.i l.rows) ++ replicate (most_rows - l.i) Ends
