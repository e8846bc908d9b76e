use Rattle.std.proofs.Common.{◌≡◌, ◌≤◌, ◌-◌, None, length, drop}
use Rattle.std.specs.Option.{option_map}
use Rattle.roam_normalize.specs.Titles.{newest, titles_part}
use Rattle.roam_normalize.proofs.titles.newest_title.Given as goal

abbrev pub invariant-loop-at : goal.invariant-loop-at
invariant-loop-at l =
    (l.at ≤ length l.bytes)
    × (newest (titles_part l.bytes) None ≡ newest (titles_part (drop l.at l.bytes)) (option_map (λ title. title.now) l.title))

abbrev pub decreases-loop-at : goal.decreases-loop-at
decreases-loop-at l = length l.bytes - l.at
