use Rattle.std.proofs.Common.{◌≡◌, ℕ, ◌+◌, ◌%◌, ◌^◌, ◌<◌, ◌≤◌, slice_index}
use Rattle.roam_layout.specs.Layouts.{panes}
use Rattle.roam_session.specs.Generations.{made_between}
use Rattle.roam_session.proofs.generations.count_generations.Given as goal

abbrev pub invariant-loop-pane : goal.invariant-loop-pane
invariant-loop-pane l =
    record {
      done : (k : ℕ) → k < l.pane
          → slice_index l.generations k ≡ (slice_index l.initial.generations k + made_between (panes l.old) (panes l.new) k) % 2 ^ 64;
      left : (k : ℕ) → l.pane ≤ k → slice_index l.generations k ≡ slice_index l.initial.generations k;
    }
