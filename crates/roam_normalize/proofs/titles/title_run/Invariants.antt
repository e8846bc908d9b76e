use Rattle.std.proofs.Common.{◌≡◌, ◌≤◌, ◌-◌, length, take, drop}
use Rattle.roam_normalize.specs.Normalized.{most_title, title_scan}
use Rattle.roam_normalize.specs.Titles.{with_letters}
use Rattle.roam_normalize.proofs.titles.title_run.Given as goal

abbrev pub invariant-loop-at : goal.invariant-loop-at
invariant-loop-at l =
    (l.at ≤ length l.rest) × (l.at ≤ most_title)
    × (title_scan most_title l.rest ≡ with_letters (take l.at l.rest) (title_scan (most_title - l.at) (drop l.at l.rest)))

abbrev pub decreases-loop-at : goal.decreases-loop-at
decreases-loop-at l = length l.rest - l.at
