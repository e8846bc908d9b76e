use Rattle.std.proofs.Common.{◌≡◌, ◌≤◌, ◌+◌, ◌-◌, length, drop}
use Rattle.roam_normalize.specs.Renditions.{fields_length}
use Rattle.roam_normalize.proofs.renditions.fields_length.Given as goal

abbrev pub invariant-loop-at : goal.invariant-loop-at
invariant-loop-at l =
    (l.at ≤ length l.bytes)
    × (fields_length l.separator l.fn.fields l.bytes ≡ l.at + fields_length l.separator l.left (drop l.at l.bytes))

abbrev pub decreases-loop-at : goal.decreases-loop-at
decreases-loop-at l = length l.bytes - l.at
