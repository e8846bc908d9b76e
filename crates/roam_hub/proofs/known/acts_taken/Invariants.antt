use Rattle.std.proofs.Common.{◌≡◌, take}
use Rattle.roam_hub.specs.Records.{acts_after}
use Rattle.roam_hub.proofs.known.acts_taken.Given as goal

-- those of the records so far
abbrev pub invariant-loop-at : goal.invariant-loop-at
invariant-loop-at l = l.taken ≡ acts_after 0 (take l.at l.records.entries)
