use Rattle.std.proofs.Common.{◌≡◌, ◌-◌, length, drop}
use Rattle.roam_pane_metadata.specs.Texts.{are_ascii}
use Rattle.roam_pane_metadata.proofs.texts.are_ascii.Given as goal

abbrev pub invariant-loop-at : goal.invariant-loop-at
invariant-loop-at l = are_ascii (drop l.at l.text) ≡ are_ascii l.text

abbrev pub decreases-loop-at : goal.decreases-loop-at
decreases-loop-at l = length l.text - l.at
