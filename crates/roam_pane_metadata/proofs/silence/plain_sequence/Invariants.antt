use Rattle.std.proofs.Common.{◌≤◌, ◌-◌, length, drop, take}
use Rattle.roam_pane_metadata.specs.Silence.{AreNumbers}
use Rattle.roam_pane_metadata.proofs.silence.plain_sequence.Given as goal

abbrev pub invariant-loop-at : goal.invariant-loop-at
invariant-loop-at l = (2 ≤ l.at) × (l.at ≤ length l.piece) × AreNumbers (drop 2 (take l.at l.piece))

abbrev pub decreases-loop-at : goal.decreases-loop-at
decreases-loop-at l = length l.piece - l.at
