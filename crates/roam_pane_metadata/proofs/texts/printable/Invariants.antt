use Rattle.std.proofs.Common.{◌≡◌, ◌≤◌, ◌-◌, ◌++◌, length, take, drop}
use Rattle.std.specs.List.{filter}
use Rattle.roam_pane_metadata.specs.Texts.{is_printable, longest_title}
use Rattle.roam_pane_metadata.proofs.texts.printable.Given as goal

abbrev pub invariant-loop-at : goal.invariant-loop-at
invariant-loop-at l =
    (length l.title.items ≤ longest_title) × (l.at ≤ length l.text)
    × (take longest_title (l.title.items ++ filter is_printable (drop l.at l.text)) ≡ take longest_title (filter is_printable l.text))

abbrev pub decreases-loop-at : goal.decreases-loop-at
decreases-loop-at l = length l.text - l.at
