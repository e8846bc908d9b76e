use Rattle.std.proofs.Common.{◌≡◌, ◌-◌, true, length, drop}
use Rattle.roam_normalize.specs.Meanings.{has_three}
use Rattle.roam_normalize.proofs.meanings.has_three.Given as goal

abbrev pub invariant-loop-at : goal.invariant-loop-at
invariant-loop-at l = has_three l.anew (drop l.at l.numbers) ≡ has_three true l.numbers

abbrev pub decreases-loop-at : goal.decreases-loop-at
decreases-loop-at l = length l.numbers - l.at
