use Rattle.std.proofs.Common.{◌≡◌, ◌-◌, length, drop}
use Rattle.roam_normalize.specs.Meanings.{are_parameters}
use Rattle.roam_normalize.proofs.meanings.are_parameters.Given as goal

abbrev pub invariant-loop-at : goal.invariant-loop-at
invariant-loop-at l = are_parameters (drop l.at l.bytes) ≡ are_parameters l.bytes

abbrev pub decreases-loop-at : goal.decreases-loop-at
decreases-loop-at l = length l.bytes - l.at
