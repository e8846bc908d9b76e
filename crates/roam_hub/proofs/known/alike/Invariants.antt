use Rattle.std.proofs.Common.{◌≡◌, ◌≤◌, length, take}
use Rattle.roam_hub.specs.Records.{alike_entries}
use Rattle.roam_hub.proofs.known.alike.Given as goal

-- those of the records so far
abbrev pub invariant-loop-at : goal.invariant-loop-at
invariant-loop-at l = record { count : l.count ≡ length (alike_entries l.watches (take l.at l.records.entries)); few : l.count ≤ l.at }
