use Rattle.std.proofs.Common.{◌≡◌, ℕ, ◌<◌, ◌≤◌, ◌-◌, length}
use Rattle.std.specs.Prelude.{slice_get}
use Rattle.roam_pane_protocol.specs.Queries.{queries_at}
use Rattle.roam_pane_sockets.specs.Queries.{pane_asked}
use Rattle.roam_pane_sockets.proofs.panes.Panes.query_counts.Given as goal

abbrev pub invariant-loop-pane : goal.invariant-loop-pane
invariant-loop-pane l =
    ((p : ℕ) → 1 ≤ p → p < l.pane → queries_at l.list p ≡ pane_asked (slice_get l.self.all.items (p - 1))) × (length l.list.all ≡ 10)
