use Rattle.std.proofs.Common.{◌≤◌, ◌-◌, ◌++◌, List, ℕ, length, take}
use Rattle.roam_pane_metadata.specs.Emissions.{IsCounted}
use Rattle.roam_pane_metadata.specs.Metadata.{Stands}
use Rattle.roam_pane_metadata.proofs.metadata.Metadata.feed.Given as goal

abbrev pub invariant-loop-at : goal.invariant-loop-at
invariant-loop-at l =
    (l.at ≤ length l.piece) × ((bytes : List ℕ) → Stands l.fn.self bytes → Stands l.self (bytes ++ take l.at l.piece))
    × IsCounted l.fn.self.texts.said l.self.texts.said

abbrev pub decreases-loop-at : goal.decreases-loop-at
decreases-loop-at l = length l.piece - l.at
