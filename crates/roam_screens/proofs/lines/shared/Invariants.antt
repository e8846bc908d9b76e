use Rattle.std.proofs.Common.{◌≡◌, take}
use Rattle.roam_screens.proofs.lines.shared.Given as goal

abbrev pub invariant-loop-line : goal.invariant-loop-line
invariant-loop-line l = l.copy.items ≡ take l.line-index l.lines
