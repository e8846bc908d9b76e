use Rattle.std.proofs.Common.{◌≡◌, ◌≤◌, drop, length}
use Rattle.roam_stream_framing.proofs.backlog.Backlog.took.Given as goal

-- so many are left to go, and the others went
abbrev pub invariant-loop-left : goal.invariant-loop-left
invariant-loop-left l = (l.left ≤ length l.self) × (drop l.left l.self ≡ drop l.fn.count l.initial.self)

abbrev pub decreases-loop-left : goal.decreases-loop-left
decreases-loop-left l = l.left
