use Rattle.std.proofs.Common.{◌≡◌, ℕ, ◌<◌, ◌≤◌, ◌-◌, length}
use Rattle.std.specs.Prelude.{slice_get}
use Rattle.roam_pane_protocol.specs.Clips.{clips_at}
use Rattle.roam_pane_sockets.specs.Clips.{pane_clips}
use Rattle.roam_pane_sockets.proofs.panes.Panes.clip_counts.Given as goal

abbrev pub invariant-loop-pane : goal.invariant-loop-pane
invariant-loop-pane l =
    ((p : ℕ) → 1 ≤ p → p < l.pane → clips_at l.list p ≡ pane_clips (slice_get l.self.all.items (p - 1))) × (length l.list.all ≡ 10)
