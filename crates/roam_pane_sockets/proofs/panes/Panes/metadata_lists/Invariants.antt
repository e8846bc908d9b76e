use Rattle.std.proofs.Common.{◌≡◌, ℕ, ◌<◌, ◌≤◌, ◌-◌, length}
use Rattle.std.specs.Prelude.{slice_get}
use Rattle.roam_pane_protocol.specs.MetadataLists.{metadata_at}
use Rattle.roam_pane_sockets.specs.MetadataLists.{pane_metadata, shown_bells}
use Rattle.roam_pane_sockets.proofs.panes.Panes.metadata_lists.Given as goal

abbrev pub invariant-loop-pane : goal.invariant-loop-pane
invariant-loop-pane l =
    ((p : ℕ) → 1 ≤ p → p < l.pane
    → metadata_at l.list p ≡ shown_bells l.may_ring (metadata_at l.shown p) (pane_metadata (slice_get l.self.all.items (p - 1))))
    × (length l.list.all ≡ 10)
