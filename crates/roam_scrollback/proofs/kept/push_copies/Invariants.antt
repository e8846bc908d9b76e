use Rattle.std.proofs.Common.{◌≡◌, ◌++◌, take}
use Rattle.roam_scrollback.proofs.kept.push_copies.Given as goal

abbrev pub invariant-loop-row : goal.invariant-loop-row
invariant-loop-row l = l.all.items ≡ l.initial.all.items ++ take l.row-index l.rows
