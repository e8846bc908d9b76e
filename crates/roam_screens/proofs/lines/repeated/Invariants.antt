use Rattle.std.proofs.Common.{◌≡◌, replicate}
use Rattle.roam_screens.proofs.lines.repeated.Given as goal

abbrev pub invariant-loop-k : goal.invariant-loop-k
invariant-loop-k l = l.lines.items ≡ replicate l._k l.line
