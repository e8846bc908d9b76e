use Rattle.std.proofs.Common.{◌≡◌, ◌≤◌, ◌-◌, length, drop}
use Rattle.std.specs.Prelude.{IfSome}
use Rattle.roam_pane_sockets.specs.Frames.{frame_after}
use Rattle.roam_pane_sockets.proofs.frames.frame_after.Given as goal

abbrev pub invariant-loop-at : goal.invariant-loop-at
invariant-loop-at l =
    (l.at ≤ length l.bytes) × (IfSome l.fn.frame (λ begin. begin ≤ l.fn.from) → IfSome l.open (λ begin. begin ≤ l.at))
    × (l.fn.from ≤ l.at) × (frame_after l.open l.at (drop l.at l.bytes) ≡ frame_after l.fn.frame l.fn.from (drop l.fn.from l.bytes))

abbrev pub decreases-loop-at : goal.decreases-loop-at
decreases-loop-at l = length l.bytes - l.at
