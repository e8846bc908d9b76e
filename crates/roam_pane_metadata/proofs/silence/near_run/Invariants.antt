use Rattle.std.proofs.Common.{◌≤◌, ◌-◌, length, take}
use Rattle.roam_pane_metadata.specs.Silence.{AreStill}
use Rattle.roam_pane_metadata.proofs.silence.near_run.Given as goal

abbrev pub invariant-loop-at : goal.invariant-loop-at
invariant-loop-at l = (l.at ≤ length l.piece) × AreStill (take l.at l.piece)

abbrev pub decreases-loop-at : goal.decreases-loop-at
decreases-loop-at l = length l.piece - l.at
