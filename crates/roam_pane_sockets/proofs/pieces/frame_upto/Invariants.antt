use Rattle.std.proofs.Common.{◌≡◌, ◌≤◌, ◌-◌, drop}
use Rattle.roam_pane_sockets.specs.Pieces.{frame_upto}
use Rattle.roam_pane_sockets.proofs.pieces.frame_upto.Given as goal

abbrev pub invariant-loop-at : goal.invariant-loop-at
invariant-loop-at l =
    (l.at ≤ l.count) × (frame_upto (l.count - l.at) l.open l.at (drop l.at l.bytes) ≡ frame_upto l.count l.fn.frame 0 l.bytes)

abbrev pub decreases-loop-at : goal.decreases-loop-at
decreases-loop-at l = l.count - l.at
