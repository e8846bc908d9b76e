use Rattle.std.proofs.Common.{◌≡◌, ◌≤◌, ◌-◌, true, length, take, drop}
use Rattle.roam_pane_metadata.specs.Texts.{are_ascii}
use Rattle.roam_pane_metadata.proofs.texts.ascii_bytes.Given as goal

abbrev pub invariant-loop-at : goal.invariant-loop-at
invariant-loop-at l = (are_ascii (drop l.at l.text) ≡ true) × (l.at ≤ length l.text) × (l.bytes.items ≡ take l.at l.text)

abbrev pub decreases-loop-at : goal.decreases-loop-at
decreases-loop-at l = length l.text - l.at
