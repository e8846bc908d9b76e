use Rattle.std.proofs.Common.{◌≡◌, ◌-◌, length, drop}
use Rattle.roam_normalize.specs.Meanings.{are_numbers}
use Rattle.roam_normalize.proofs.meanings.are_numbers.Given as goal

abbrev pub invariant-loop-at : goal.invariant-loop-at
invariant-loop-at l = are_numbers (drop l.at l.bytes) ≡ are_numbers l.bytes

abbrev pub decreases-loop-at : goal.decreases-loop-at
decreases-loop-at l = length l.bytes - l.at
