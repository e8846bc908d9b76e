use Rattle.std.proofs.Common.{◌≡◌, ℕ, ◌<◌, ◌≤◌, length}
use Rattle.roam_session.specs.Generations.{generation_of}
use Rattle.roam_session.specs.Places.{rect_at}
use Rattle.roam_model.specs.Servers.{Server as ServerOf}
use Rattle.roam_hub.specs.Servers.{Stands}
use Rattle.roam_pane_protocol.specs.Known.{pane_at}
use Rattle.roam_serve.specs.Listed.{pane_of}
use Rattle.roam_serve.proofs.serving.panes_of.Given as goal

abbrev pub invariant-loop-pane : goal.invariant-loop-pane
invariant-loop-pane l =
    ((s : ServerOf) → Stands l.server s → (p : ℕ) → 1 ≤ p → p < l.pane
    → pane_at l.panes p ≡ pane_of (generation_of s.size s.log p) (rect_at s.size s.log p)) × (length l.panes.all ≡ 10)
